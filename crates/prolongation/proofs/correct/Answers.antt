-- `prolongation::correct` meets its contract: the sums, divided and added in air. Assumes nothing.
use Rattle.transfer.proofs.Ends.{ends}
use Rattle.prolongation.proofs.correct.Goals as goal

pub sum_rows-requires : goal.sum_rows-requires
sum_rows-requires c = search ends

pub returns : goal.returns
returns c = search ends
