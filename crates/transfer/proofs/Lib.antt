-- Proofs.
pub mod Laws
pub mod Stretch
pub mod RowLaws
pub mod Plain
pub mod Sources
pub mod Sums
pub mod Ends
pub mod Cases
