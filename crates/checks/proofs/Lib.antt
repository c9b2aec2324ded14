-- Laws that the proofs of several functions cite, and those that the crates above use of checks and rulings.
pub mod CheckLaws
pub mod RuleLaws
