-- The laws that the proofs of this crate cite, and that its promises allow one result.
pub mod ValueLaws
pub mod JudgeLaws
pub mod ReadLaws
pub mod Unique
