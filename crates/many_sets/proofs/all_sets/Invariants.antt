-- `many_sets::all_sets` meets its contract: after s turns the first s stretches are done. Assumes nothing.
use Rattle.many_sets.specs.Sets.{Done}
use Rattle.many_sets.proofs.all_sets.Given as goal

abbrev pub invariant-loop-s : goal.invariant-loop-s
invariant-loop-s l = Done l.sides l.labels l.values l.settings l.sets l.initial.pressures l.initial.answers l.s l.pressures l.answers
