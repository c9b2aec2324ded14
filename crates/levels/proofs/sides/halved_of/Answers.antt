-- `levels::sides::halved_of` meets its contract. Assumes nothing.
use borrow.Author.Rules.{rules}
use Rattle.method.specs.Levels.{half, halved}
use Rattle.levels.proofs.sides.halved_of.Goals as goal

pub returns : goal.returns
unfolding halved half
returns c = search rules
