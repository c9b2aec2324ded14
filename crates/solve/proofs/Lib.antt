-- What the proofs of several functions cite.
pub mod Judging
pub mod Preparing
pub mod Working
pub mod Solving
pub mod Exam
