-- `distances::is_lost` meets its contract: by the label and the mark. Assumes nothing.
use Rattle.distances.proofs.SearchCode.{marks}
use Rattle.distances.proofs.is_lost.Goals as goal

pub returns-then-labels-i-eq0 : goal.returns-then-labels-i-eq0
returns-then-labels-i-eq0 c = search marks

pub returns-else-labels-i-eq0 : goal.returns-else-labels-i-eq0
returns-else-labels-i-eq0 c = search marks
