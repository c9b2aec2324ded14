-- Laws that the proofs of several functions cite, and the round trips of reader and writer.
pub mod WriteLaws
pub mod Unique
pub mod Trips
