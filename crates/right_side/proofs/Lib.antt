-- Laws, each once.
pub mod Laws
