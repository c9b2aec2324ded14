-- Laws that the proofs of several functions cite.
pub mod OldRespondLaws
pub mod OldFrontLaws
pub mod Cases
