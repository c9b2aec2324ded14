-- What the proofs of several functions cite.
pub mod Laws
pub mod Air
pub mod Levels
pub mod Calls
