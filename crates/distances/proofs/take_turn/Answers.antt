-- `distances::take_turn` meets its contract: from the head of the queue. Assumes nothing.
use Rattle.distances.proofs.SearchCode.{turns}
use Rattle.distances.proofs.take_turn.Goals as goal

pub returns-then-head-tail : goal.returns-then-head-tail
returns-then-head-tail c = search turns

pub returns : goal.returns
returns c = search turns
