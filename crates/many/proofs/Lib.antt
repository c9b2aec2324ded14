-- What the proofs of several functions cite, and what the promise comes to.
pub mod ManyWorking
pub mod ManySolving
pub mod ManyExam
pub mod SetCases
