-- `cycle::level_list` meets its contract, since the part lies within the room. Assumes nothing.
use Rattle.cycle.proofs.Levels.{parts}
use Rattle.cycle.proofs.level_list.Goals as goal

pub returns : goal.returns
returns c = search parts
