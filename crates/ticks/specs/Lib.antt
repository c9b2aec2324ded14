-- The definitions that the crate's contracts cite.
pub mod Faces
pub mod Worst
pub mod TickSize
