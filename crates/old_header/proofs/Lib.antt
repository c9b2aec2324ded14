-- The laws that the proofs of this crate cite, and that its promise allows one result.
pub mod OldHeaderLaws
pub mod Unique
