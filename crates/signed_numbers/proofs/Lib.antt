-- What the proofs of this crate and of its callers cite.
pub mod Laws
pub mod Signs
