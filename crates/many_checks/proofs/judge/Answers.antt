-- `many_checks::judge` meets its contract: what check 1 and 2 leave known. Assumes nothing.
use Rattle.many_checks.proofs.ManyJudging.{sides_known, labels_known}
use Rattle.many_checks.proofs.judge.Goals as goal

pub cell_count-n-requires : goal.cell_count-n-requires
cell_count-n-requires c = sides_known c.judge_sides.ensures c.in_ok-judge_sides.was

pub judge_content-requires-clause-fit : goal.judge_content-requires-clause-fit
judge_content-requires-clause-fit c = sides_known c.judge_sides.ensures c.in_ok-judge_sides.was

pub judge_content-requires-clause-n_value : goal.judge_content-requires-clause-n_value
judge_content-requires-clause-n_value c = (c.cell_count-n.ensures.0, (c.cell_count-n.ensures.1, labels_known _ _ _ _ _ c.lengths_fit.ensures c.if-not-lengths_fit.false))
