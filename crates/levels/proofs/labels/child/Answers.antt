-- `levels::labels::child` meets its contract. Assumes nothing.
use borrow.Author.Rules.{rules}
use Rattle.levels.specs.Kin.{child_at}
use Rattle.levels.proofs.labels.child.Goals as goal

pub returns : goal.returns
unfolding child_at
returns c = search rules
