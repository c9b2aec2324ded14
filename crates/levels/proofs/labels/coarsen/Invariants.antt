-- `levels::labels::coarsen` meets its contract: the coarse cells below c are labelled. Assumes nothing.
use Rattle.laws.proofs.Loops.{Up}
use Rattle.levels.specs.AllLabels.{coarsen_step}
use Rattle.levels.proofs.labels.coarsen.Given as goal

abbrev pub invariant-loop-c : goal.invariant-loop-c
invariant-loop-c l = Up (coarsen_step l.g l.at l.n) l.initial.bytes l.c l.bytes
