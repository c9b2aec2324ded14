-- The laws that the proofs of this crate cite, that its promise allows one result, and the round trips of the code.
pub mod WriteLaws
pub mod Unique
pub mod RoundTrip
