-- `levels::sides::level_after` meets its contract. Assumes nothing.
use borrow.Author.Rules.{rules}
use Rattle.levels.specs.Levels.{next_level}
use Rattle.levels.proofs.sides.level_after.Goals as goal

pub returns : goal.returns
unfolding next_level
returns c = search rules
