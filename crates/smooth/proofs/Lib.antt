-- Laws, each once.
pub mod Sums
pub mod Turns
pub mod Fields
pub mod Written
pub mod Sweeps
pub mod After
pub mod EntryLaws
pub mod StencilLaws
