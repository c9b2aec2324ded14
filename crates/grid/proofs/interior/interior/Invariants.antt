use Rattle.laws.proofs.Loops.{Up}
use Rattle.grid.proofs.Counts.{counting}
use Rattle.grid.proofs.interior.interior.Given as goal

abbrev pub invariant-loop-c : goal.invariant-loop-c
invariant-loop-c l = Up (counting l.labels) 0 l.c l.k
