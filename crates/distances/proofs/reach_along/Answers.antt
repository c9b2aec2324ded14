-- `distances::reach_along` meets its contract: one neighbour after the other. Assumes nothing.
use Rattle.distances.proofs.SearchCode.{alongs}
use Rattle.distances.proofs.reach_along.Goals as goal

pub returns : goal.returns
returns c = search alongs
