-- `acceptance::write_ticks` meets its contract: after c turns the first c pressures stand. Assumes nothing.
use Rattle.laws.proofs.Loops.{Up}
use Rattle.acceptance.proofs.Laws.{writing}
use Rattle.acceptance.proofs.write_ticks.Given as goal

abbrev pub invariant-loop-c : goal.invariant-loop-c
invariant-loop-c l = Up (writing l.labels l.values l.x) l.initial.pressures l.c l.pressures
