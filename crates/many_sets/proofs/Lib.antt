-- What the proofs of several functions cite.
pub mod Setting
pub mod Turning
