-- Laws that the proofs of several functions cite.
pub mod SizeLaws
pub mod JudgeLaws
pub mod ReadLaws
pub mod Unique
