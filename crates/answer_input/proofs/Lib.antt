-- Laws that the proof of `run` cites.
pub mod RunLaws
