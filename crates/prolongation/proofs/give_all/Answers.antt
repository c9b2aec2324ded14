-- `prolongation::give_all` meets its contract: after r turns the first r coarse rows are added. Assumes nothing.
use Rattle.transfer.proofs.Sources.{spreads}
use Rattle.prolongation.proofs.give_all.Goals as goal

pub loop-r-init : goal.loop-r-init
loop-r-init c = search spreads

pub loop-r-preserved : goal.loop-r-preserved
loop-r-preserved c = search spreads
