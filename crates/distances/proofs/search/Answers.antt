-- `distances::search` meets its contract: its three parts. Assumes nothing.
use Rattle.distances.proofs.SearchCode.{held_first, searching}
use Rattle.distances.proofs.search.Goals as goal

pub start_all-tail-requires : goal.start_all-tail-requires
start_all-tail-requires c = search searching

pub flood-requires : goal.flood-requires
flood-requires c = held_first _ _ _ _ _ _ c.requires c.start_all-tail.ensures

pub returns : goal.returns
returns c = search searching
