-- The definitions that the crate's contracts cite.
pub mod Fields
pub mod Turns
pub mod Entries
