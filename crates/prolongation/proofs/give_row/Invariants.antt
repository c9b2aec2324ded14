-- `prolongation::give_row` meets its contract: the cells below 2·j + 1 stand. Assumes nothing.
use Prim.Native.Nat.{◌+◌, ◌*◌}
use Rattle.laws.proofs.Loops.{Up}
use Rattle.transfer.specs.Rows.{two, row_step}
use Rattle.prolongation.proofs.give_row.Given as goal

abbrev pub invariant-loop-j : goal.invariant-loop-j
invariant-loop-j l = Up (row_step two l.rows.from l.rows.cells l.rows.to l.rows.far l.rows.near) l.fn.room (2 * l.j + 1) l.room
