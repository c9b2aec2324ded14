-- `levels::sides::levels_of` meets its contract: the levels below level-index are written down, and next is level level-index. Assumes
-- nothing.
use Rattle.levels.proofs.Starts.{fillings}
use Rattle.levels.proofs.sides.levels_of.Goals as goal

pub loop-level-init : goal.loop-level-init
loop-level-init c = search fillings

pub level_after-next-requires-clause-fit : goal.level_after-next-requires-clause-fit
level_after-next-requires-clause-fit c = search fillings

pub level_after-next-requires-clause-start_bound : goal.level_after-next-requires-clause-start_bound
level_after-next-requires-clause-start_bound c = search fillings

pub loop-level-preserved : goal.loop-level-preserved
loop-level-preserved c = search fillings

pub returns : goal.returns
returns c = search fillings
