-- The hand cases.
pub mod Cases
pub mod OldCases
pub mod OldProgramCases
pub mod ManyCases
