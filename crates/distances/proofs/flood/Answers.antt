-- `distances::flood` meets its contract: after i turns the queue is i turns on. Assumes nothing.
use Rattle.distances.proofs.SearchCode.{loops}
use Rattle.distances.proofs.flood.Goals as goal

pub loop-head-init : goal.loop-head-init
loop-head-init c = search loops

pub loop-head-preserved : goal.loop-head-preserved
loop-head-preserved c = search loops
