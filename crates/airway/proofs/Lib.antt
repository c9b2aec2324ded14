-- What the promise of `answer_input`, at the program's own limit, says by document 01.
pub mod Laws
