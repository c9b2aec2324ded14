-- `prolongation::give_row` meets its contract: the first cell, the pairs, the last. Assumes nothing.
use Prim.Native.Nat.{◌+◌, ◌-◌, ◌*◌}
use mathlib.Core.Path.{ap}
use native.Mathlib.Omega.{arith}
use lib.ListN.{set}
use Rattle.laws.proofs.Loops.{ups}
use Rattle.transfer.specs.Rows.{two}
use Rattle.transfer.proofs.RowLaws.{row_set, row_first, row_last, pair_more}
use Rattle.prolongation.proofs.give_row.Goals as goal

pub loop-j-init : goal.loop-j-init
loop-j-init c = search (ups, row_set, row_first)

pub loop-j-preserved : goal.loop-j-preserved
loop-j-preserved c = search (ups, pair_more)

pub returns-then-rows-eq0 : goal.returns-then-rows-eq0
returns-then-rows-eq0 c =
    let r = c.args.rows in
    row_last two r.from r.cells r.to r.far r.near _ _ _ (2 * c.loop-j.j + 1) (r.sums - 1) r.sums c.loop-j.invariant (omega arith) (omega arith)
    (ap (λ x. set c.loop-j.room (r.to + (r.sums - 1)) x) c.two_at-then-rows-eq0.ensures)
