-- `answer_old_session::solve_old` meets its contract: the parts that the cells take. Assumes nothing.
use Rattle.answer_old_session.proofs.OldRespondLaws.{parts}
use Rattle.answer_old_session.proofs.solve_old.Goals as goal

pub cell_count-n-requires : goal.cell_count-n-requires
cell_count-n-requires c = search parts

pub slice_bounds-solved-end : goal.slice_bounds-solved-end
slice_bounds-solved-end c = search parts

pub slice_bounds-solved-end-2 : goal.slice_bounds-solved-end-2
slice_bounds-solved-end-2 c = search parts

pub slice_bounds-solved-end-3 : goal.slice_bounds-solved-end-3
slice_bounds-solved-end-3 c = search parts

pub solved-requires : goal.solved-requires
solved-requires c = search parts

pub returns : goal.returns
returns c = search parts
