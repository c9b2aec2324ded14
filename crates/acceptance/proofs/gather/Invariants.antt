-- `acceptance::gather` meets its contract: the count and the sum are those of the cells that were visited. Assumes nothing.
use Rattle.ticks.proofs.Laws.{Gathering}
use Rattle.acceptance.specs.Cells.{rounded_on}
use Rattle.acceptance.proofs.gather.Given as goal

abbrev pub invariant-loop-j : goal.invariant-loop-j
invariant-loop-j l = Gathering l.labels (rounded_on l.g l.labels l.values l.x) l.j-items l.j-index l.a
