-- `restriction::draw_row` meets its contract: the cells below i stand. Assumes nothing.
use Prim.Native.Nat.{◌≤◌}
use Rattle.laws.proofs.Loops.{Up}
use Rattle.transfer.specs.Rows.{four, row_step}
use Rattle.restriction.proofs.draw_row.Given as goal

abbrev pub invariant-loop-i : goal.invariant-loop-i
invariant-loop-i l = (l.i ≤ l.rows.sums) × Up (row_step four l.rows.from l.rows.cells l.rows.to l.rows.far l.rows.near) l.fn.room l.i l.room
