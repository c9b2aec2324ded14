-- `restriction::sum_rows` meets its contract: after r turns the first r rows have their sums. Assumes nothing.
use Rattle.transfer.proofs.Sums.{sums}
use Rattle.restriction.proofs.sum_rows.Goals as goal

pub loop-r-init : goal.loop-r-init
loop-r-init c = search sums

pub loop-r-preserved : goal.loop-r-preserved
loop-r-preserved c = search sums

pub returns : goal.returns
returns c = search sums
