-- The definitions that the crate's contracts cite.
pub mod Strokes
pub mod Rooms
