-- What the theorems are about.
pub mod Sides
pub mod Totals
pub mod Walks
pub mod Exact
pub mod Answered
pub mod Levels
pub mod Sessions
pub mod Waves
pub mod OldSessions
pub mod Quiet
