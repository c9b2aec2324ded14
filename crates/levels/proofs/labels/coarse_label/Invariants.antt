-- `levels::labels::coarse_label` meets its contract: the label of the children so far. Assumes nothing.
use Rattle.laws.proofs.Loops.{Up}
use Rattle.levels.specs.Kin.{rank_step}
use Rattle.levels.proofs.labels.coarse_label.Given as goal

abbrev pub invariant-loop-t : goal.invariant-loop-t
invariant-loop-t l = Up (rank_step l.labels l.g l.s) l.initial.label l.t l.label
