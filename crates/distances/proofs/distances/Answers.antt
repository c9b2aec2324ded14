-- `distances::distances` meets its contract: the search, and two walks over its marks. Assumes nothing.
use Rattle.distances.proofs.SearchWalk.{measuring}
use Rattle.distances.proofs.distances.Goals as goal

pub first_lost-requires : goal.first_lost-requires
first_lost-requires c = search measuring

pub returns : goal.returns
returns c = search measuring
