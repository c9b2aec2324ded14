-- `restriction::restrict` meets its contract: the sums, divided in air. Assumes nothing.
use Rattle.transfer.proofs.Ends.{ends}
use Rattle.restriction.proofs.restrict.Goals as goal

pub sum_rows-requires : goal.sum_rows-requires
sum_rows-requires c = search ends

pub end_sums-requires : goal.end_sums-requires
end_sums-requires c = search ends

pub returns : goal.returns
returns c = search ends
