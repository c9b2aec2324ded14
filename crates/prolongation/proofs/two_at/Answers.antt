-- `prolongation::two_at` meets its contract: by where the fine cell lies. Assumes nothing.
use borrow.Author.Rules.{rules}
use Rattle.transfer.proofs.RowLaws.{part_even, part_odd}
use Rattle.prolongation.proofs.two_at.Goals.{then-even, else-even}
use Rattle.prolongation.proofs.two_at.Goals as goal

pub returns : goal.returns
returns c =
    let a = c.args in
    elim c.if-even.branch [
      | then-even b ↦ part_even a.room.now a.rows.from a.rows.cells a.rows.far a.rows.near a.i _ _ _ c.if-even.below c.add_cell-sum.ensures c.add_cell.ensures (search (rules, b.if-even)) b.below-is
      | else-even b ↦ part_odd a.room.now a.rows.from a.rows.cells a.rows.far a.rows.near a.i _ _ _ c.if-even.below c.add_cell-sum.ensures c.add_cell.ensures (search (rules, b.if-even)) b.below-is
    ]
