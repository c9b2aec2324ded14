-- The theorems.
pub mod Rooms
pub mod Rules
pub mod Fronts
pub mod OldFronts
pub mod Told
pub mod Bounds
