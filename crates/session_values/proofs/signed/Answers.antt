-- `session_values::signed` meets its contract. Assumes nothing.
use Rattle.session_values.proofs.WordLaws.{words}
use Rattle.session_values.proofs.signed.Goals as goal

pub returns : goal.returns
returns c = search words
