-- `distances::start_at` meets its contract: by the label. Assumes nothing.
use Rattle.distances.proofs.SearchCode.{airs}
use Rattle.distances.proofs.start_at.Goals as goal

pub returns-then-labels-i-eq1 : goal.returns-then-labels-i-eq1
returns-then-labels-i-eq1 c = search airs

pub returns : goal.returns
returns c = search airs
