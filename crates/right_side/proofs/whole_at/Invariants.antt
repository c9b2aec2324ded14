-- `right_side::whole_at` meets its contract: the sum is that of the cells that were visited. Assumes nothing.
use Rattle.right_side.proofs.Laws.{Gathering}
use Rattle.right_side.proofs.whole_at.Given as goal

abbrev pub invariant-loop-j : goal.invariant-loop-j
invariant-loop-j l = Gathering l.labels l.values l.j-items l.initial.b l.j-index l.b
