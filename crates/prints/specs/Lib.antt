-- What the theorems are about.
pub mod Prints
