-- Proofs.
pub mod Blocks
pub mod Hits
pub mod Chosen
pub mod Gathered
pub mod Calls
