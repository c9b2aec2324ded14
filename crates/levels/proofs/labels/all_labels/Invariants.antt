-- `levels::labels::all_labels` meets its contract: the labels of the levels 0 to level-index stand in the room. Assumes
-- nothing.
use Rattle.laws.proofs.Loops.{Up}
use Rattle.levels.specs.Rooms.{written}
use Rattle.levels.specs.AllLabels.{next_step}
use Rattle.levels.proofs.labels.all_labels.Given as goal

abbrev pub invariant-loop-level : goal.invariant-loop-level
invariant-loop-level l = Up (next_step l.fn.l) (written l.fn.bytes 0 l.labels) l.level-index l.bytes
