-- What the proofs of several functions cite, and the theorem that the promise is one result.
pub mod Steps
pub mod Parts
pub mod Turns
pub mod Calm
pub mod Budget
