-- Laws that the proofs of several functions cite.
pub mod LineLaws
pub mod HeaderLaws
pub mod Unique
