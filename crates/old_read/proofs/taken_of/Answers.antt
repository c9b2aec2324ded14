-- `old_read::taken_of` meets its contract. Assumes nothing.
use Rattle.old_read.proofs.ReadLaws.{taking}
use Rattle.old_read.proofs.taken_of.Goals as goal

pub cell_count-count-requires : goal.cell_count-count-requires
cell_count-count-requires c = search taking

pub overflow_add-session : goal.overflow_add-session
overflow_add-session c = search taking

pub returns-in-Err : goal.returns-in-Err
returns-in-Err c = search taking

pub returns-in-Ok : goal.returns-in-Ok
returns-in-Ok c = search taking
