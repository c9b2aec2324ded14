-- `session_values::bad_value_at` meets its contract. Assumes nothing.
use Rattle.session_values.proofs.WordLaws.{words}
use Rattle.session_values.proofs.bad_value_at.Goals as goal

pub returns : goal.returns
returns c = search words
