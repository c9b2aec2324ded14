-- Laws that the proof of `refuse` cites.
pub mod Laws
