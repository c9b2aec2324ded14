-- `restriction::end_sums` meets its contract: after c turns the first c sums are divided. Assumes nothing.
use Rattle.laws.proofs.Loops.{Up}
use Rattle.transfer.specs.Rows.{over_step}
use Rattle.restriction.proofs.end_sums.Given as goal

abbrev pub invariant-loop-c : goal.invariant-loop-c
invariant-loop-c l = Up (over_step l.below l.o) l.initial.room l.c l.room
