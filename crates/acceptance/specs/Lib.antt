-- The definitions that the crate's contracts cite.
pub mod Trial
pub mod Cells
