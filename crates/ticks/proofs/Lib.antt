-- What the proofs of several functions, and of the crates above, cite.
pub mod Laws
pub mod TickNear
pub mod TickLaws
pub mod TickWhole
pub mod TickCases
