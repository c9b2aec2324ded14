-- Laws of the search.
pub mod SearchSafe
pub mod SearchCode
pub mod SearchRight
pub mod SearchWalk
