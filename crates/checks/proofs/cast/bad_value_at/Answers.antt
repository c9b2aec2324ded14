-- `checks::cast::bad_value_at` meets its contract. Assumes nothing.
use Rattle.checks.proofs.CheckLaws.{checked}
use Rattle.checks.proofs.cast.bad_value_at.Goals as goal

pub returns : goal.returns
returns c = search checked
