-- `distances::deeper_at` meets its contract: by the label and the mark. Assumes nothing.
use Rattle.distances.proofs.SearchCode.{marks}
use Rattle.distances.proofs.deeper_at.Goals as goal

pub returns-then-d-m : goal.returns-then-d-m
returns-then-d-m c = search marks

pub returns-else-d-m : goal.returns-else-d-m
returns-else-d-m c = search marks

pub returns-else-m-gt0 : goal.returns-else-m-gt0
returns-else-m-gt0 c = search marks

pub returns-else-labels-i-eq0 : goal.returns-else-labels-i-eq0
returns-else-labels-i-eq0 c = search marks
