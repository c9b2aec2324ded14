-- `prolongation::add_sums` meets its contract: after c turns the first c cells are corrected. Assumes nothing.
use Rattle.laws.proofs.Loops.{Up}
use Rattle.transfer.specs.Rows.{plus_step}
use Rattle.prolongation.proofs.add_sums.Given as goal

abbrev pub invariant-loop-c : goal.invariant-loop-c
invariant-loop-c l = Up (plus_step l.labels) l.initial.room l.c l.room
