-- What the proofs of several functions cite, and that the ruling is the verdict of document 02's checks.
pub mod ManyJudging
pub mod ManyLaws
pub mod ManyAnswers
