-- `distances::start_all` meets its contract: after i turns the openings among the first i cells are in the queue. Assumes
-- nothing.
use Rattle.distances.proofs.SearchCode.{loops}
use Rattle.distances.proofs.start_all.Goals as goal

pub loop-i-init : goal.loop-i-init
loop-i-init c = search loops

pub loop-i-preserved : goal.loop-i-preserved
loop-i-preserved c = search loops
