-- `session_values::word_of` meets its contract. Assumes nothing.
use Rattle.session_values.proofs.WordLaws.{words}
use Rattle.session_values.proofs.word_of.Goals as goal

pub returns : goal.returns
returns c = search words
