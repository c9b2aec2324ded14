-- Laws that the proofs of several functions cite, and of parts put one after the other.
pub mod PutLaws
pub mod EachLaws
pub mod DecimalLaws
pub mod Unique
