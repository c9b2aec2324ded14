-- `restriction::draw_row` meets its contract: the first cell, those in the middle, the last. Assumes nothing.
use Prim.Native.Nat.{◌+◌, ◌-◌}
use mathlib.Core.Path.{ap}
use native.Mathlib.Omega.{arith}
use lib.ListN.{set}
use Rattle.laws.proofs.Loops.{ups}
use Rattle.transfer.specs.Rows.{four}
use Rattle.transfer.proofs.RowLaws.{row_set, row_first, row_last}
use Rattle.restriction.proofs.draw_row.Goals as goal

pub loop-i-init : goal.loop-i-init
loop-i-init c = search (ups, row_set, row_first)

pub loop-i-preserved : goal.loop-i-preserved
loop-i-preserved c = search (ups, row_set)

pub returns-then-last-gt0 : goal.returns-then-last-gt0
returns-then-last-gt0 c =
    let r = c.args.rows in
    row_last four r.from r.cells r.to r.far r.near _ _ _ c.loop-i.i (r.sums - 1) r.sums c.loop-i.invariant.1 (omega arith) (omega arith)
    (ap (λ x. set c.loop-i.room (r.to + (r.sums - 1)) x) c.four_at-then-last-gt0.ensures)

pub returns-else-last-gt0 : goal.returns-else-last-gt0
returns-else-last-gt0 c = search ups
