-- Words with no airway in them, that the meaning is written in.
pub mod Loops
pub mod Lists
pub mod Text
pub mod Whole
pub mod Binary64
