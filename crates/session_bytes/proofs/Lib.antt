-- Laws that the proofs of several functions cite.
pub mod PartLaws
pub mod LengthLaws
pub mod Unique
