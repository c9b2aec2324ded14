-- `old_write::judge::judge_slices` meets its contract: 2 before the others, and 13 last. Assumes nothing.
use Rattle.std.proofs.Common.{refl, rules}
use Rattle.checks.proofs.RuleLaws.{first_passed}
use Rattle.old_write.proofs.WriteLaws.{slices, slices_cells}
use Rattle.old_write.proofs.judge.judge_slices.Goals as goal

pub judge_cells-requires : goal.judge_cells-requires
judge_cells-requires c = search slices

pub judge_units-requires : goal.judge_units-requires
judge_units-requires c = search slices

pub returns : goal.returns
returns c =
    slices_cells c.args.sides c.args.unit _ _ c.args.room _ c.lengths_fit.ensures c.if-not-lengths_fit.false _ c.cell_count-n.ensures.0 _ c.judge_cells.result c.judge_units.result _
    (first_passed c.judge_cells.result _ tt (search rules)) c.judge_cells.ensures c.judge_units.ensures refl
