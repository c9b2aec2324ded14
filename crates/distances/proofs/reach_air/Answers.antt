-- `distances::reach_air` meets its contract: by the label. Assumes nothing.
use Rattle.distances.proofs.SearchCode.{airs}
use Rattle.distances.proofs.reach_air.Goals as goal

pub returns-then-air : goal.returns-then-air
returns-then-air c = search airs

pub returns-else-air : goal.returns-else-air
returns-else-air c = search airs

pub returns-else-j-labels : goal.returns-else-j-labels
returns-else-j-labels c = search airs
