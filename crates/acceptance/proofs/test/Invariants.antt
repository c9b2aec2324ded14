-- `acceptance::test` meets its contract: no tick before cell c is refused, and the worst among the first c cells is within
-- the tolerance. Assumes nothing.
use Prim.Native.Nat.{◌≤◌}
use Rattle.laws.proofs.Loops.{Up}
use Rattle.theory.proofs.Firsts.{NoneBelow}
use Rattle.ticks.specs.Worst.{worst_step}
use Rattle.acceptance.specs.Cells.{rounded_on, refused_at}
use Rattle.acceptance.proofs.test.Given as goal

abbrev pub invariant-loop-c : goal.invariant-loop-c
invariant-loop-c l = (l.w ≤ l.tolerance) × NoneBelow (refused_at l.labels l.x) l.c × Up (worst_step l.g l.labels l.values (rounded_on l.g l.labels l.values l.x)) 0 l.c l.w
