-- `distances::deepest` meets its contract: after i turns the first i cells are looked at. Assumes nothing.
use Rattle.distances.proofs.SearchCode.{loops}
use Rattle.distances.proofs.deepest.Goals as goal

pub loop-i-init : goal.loop-i-init
loop-i-init c = search loops

pub loop-i-preserved : goal.loop-i-preserved
loop-i-preserved c = search loops
