-- Laws, each once.
pub mod Turns
pub mod Made
pub mod Calm
pub mod Aims
