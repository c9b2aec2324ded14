-- `distances::reach_cell` meets its contract: by the cell's mark. Assumes nothing.
use Rattle.distances.proofs.SearchCode.{airs}
use Rattle.distances.proofs.reach_cell.Goals as goal

pub bounds-room-n : goal.bounds-room-n
bounds-room-n c = search airs

pub returns-then-room-j-eq0 : goal.returns-then-room-j-eq0
returns-then-room-j-eq0 c = search airs

pub returns : goal.returns
returns c = search airs
