-- The definitions that the crate's contracts cite.
pub mod Other
pub mod Lists
pub mod AllLists
