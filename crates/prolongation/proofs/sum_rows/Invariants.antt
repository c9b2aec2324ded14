-- `prolongation::sum_rows` meets its contract: after r turns the first r rows have their sums. Assumes nothing.
use Prim.Native.Nat.{◌*◌}
use lib.ListN.{take, drop}
use Rattle.method.specs.Cast.{cells}
use Rattle.transfer.specs.Rows.{Stretch, given_sum}
use Rattle.prolongation.proofs.sum_rows.Given as goal

abbrev pub invariant-loop-r : goal.invariant-loop-r
invariant-loop-r l = Stretch (given_sum l.g (take (cells l.h) (drop (3 * l.n) l.initial.room))) (2 * l.n) (l.g.nx * l.r) l.initial.room l.room
