-- `old_read::old_labels` meets its contract. Assumes nothing.
use Rattle.old_read.proofs.ReadLaws.{readers}
use Rattle.old_read.proofs.old_labels.Goals as goal

pub taken_of-taken-requires : goal.taken_of-taken-requires
taken_of-taken-requires c = search readers

pub overflow_add-result : goal.overflow_add-result
overflow_add-result c = search readers

pub slice_bounds-result-end : goal.slice_bounds-result-end
slice_bounds-result-end c = search readers

pub returns : goal.returns
returns c = search readers
