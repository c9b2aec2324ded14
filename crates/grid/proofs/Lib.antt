-- Proofs.
pub mod Laws
pub mod Choices
pub mod Steps
pub mod Counts
pub mod EntryParts
