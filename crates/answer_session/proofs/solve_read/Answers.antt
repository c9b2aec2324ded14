-- `answer_session::solve_read` meets its contract: the parts that the cells take. Assumes nothing.
use Rattle.answer_session.proofs.RespondLaws.{parts}
use Rattle.answer_session.proofs.solve_read.Goals as goal

pub cell_count-n-requires : goal.cell_count-n-requires
cell_count-n-requires c = search parts

pub slice_bounds-solved-end-2 : goal.slice_bounds-solved-end-2
slice_bounds-solved-end-2 c = search parts

pub slice_bounds-solved-end-3 : goal.slice_bounds-solved-end-3
slice_bounds-solved-end-3 c = search parts

pub slice_bounds-solved-end-4 : goal.slice_bounds-solved-end-4
slice_bounds-solved-end-4 c = search parts

pub solved-requires : goal.solved-requires
solved-requires c = search parts

pub returns : goal.returns
returns c = search parts
