-- `acceptance::gather` meets its contract: after i turns the count and the sum are those of the first i cells. Assumes
-- nothing.
use Rattle.acceptance.proofs.Laws.{gathers}
use Rattle.acceptance.proofs.gather.Goals as goal

pub loop-j-init : goal.loop-j-init
loop-j-init c = search gathers

pub loop-j-preserved : goal.loop-j-preserved
loop-j-preserved c = search gathers

pub returns : goal.returns
returns c = search gathers
