-- Laws of the C interface, and that each promise allows one result.
pub mod Laws
pub mod Unique
