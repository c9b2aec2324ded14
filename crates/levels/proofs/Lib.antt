-- Proofs.
pub mod Starts
pub mod Rooms
pub mod Kin
pub mod Labelled
pub mod Calls
