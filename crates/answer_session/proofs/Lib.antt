-- Laws that the proofs of several functions cite.
pub mod RespondLaws
pub mod FrontLaws
pub mod Cases
