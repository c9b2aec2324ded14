-- The definitions that the crate's contracts cite.
pub mod Rooms
pub mod Levels
pub mod Kin
pub mod AllLabels
