-- `session_values::word_at` meets its contract. Assumes nothing.
use Rattle.session_values.proofs.WordLaws.{words}
use Rattle.session_values.proofs.word_at.Goals as goal

pub returns-in-Big : goal.returns-in-Big
returns-in-Big c = search words

pub returns-in-Little : goal.returns-in-Little
returns-in-Little c = search words
