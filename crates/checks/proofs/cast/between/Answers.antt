-- `checks::cast::between` meets its contract, test by test. Assumes nothing.
use Rattle.checks.proofs.CheckLaws.{checked}
use Rattle.checks.proofs.cast.between.Goals as goal

pub returns-then-lo-x : goal.returns-then-lo-x
returns-then-lo-x c = search checked

pub returns-else-lo-x : goal.returns-else-lo-x
returns-else-lo-x c = search checked
