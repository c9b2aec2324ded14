-- `session_write::judge::judge_slices` meets its contract: 2 before 4 and 5. Assumes nothing.
use Rattle.session_write.proofs.WriteLaws.{slices, slices_cells}
use Rattle.session_write.proofs.judge.judge_slices.Goals as goal

pub judge_cells-requires : goal.judge_cells-requires
judge_cells-requires c = search slices

pub returns : goal.returns
returns c =
    slices_cells c.args.sides c.args.order c.args.settings _ _ c.args.room _ c.lengths_fit.ensures c.if-not-lengths_fit.false _ c.cell_count.ensures.0 _
    c.judge_cells.ensures
