-- The laws that the proofs of this crate cite, and that its promises allow one result.
pub mod UnitLaws
pub mod PartLaws
pub mod Unique
