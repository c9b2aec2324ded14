-- What the contracts and the round trips of this crate cite, beside the meaning in method.
pub mod Writes
pub mod Trips
