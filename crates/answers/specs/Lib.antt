-- The definitions that the crate's contracts and its callers' cite.
pub mod Ends
pub mod Faults
