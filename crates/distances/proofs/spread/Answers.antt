-- `distances::spread` meets its contract: one axis after the other. Assumes nothing.
use Rattle.distances.proofs.SearchCode.{boxes}
use Rattle.distances.proofs.spread.Goals as goal

pub reach_along-y-requires : goal.reach_along-y-requires
reach_along-y-requires c = record {
  safe = (search boxes, (search boxes, search boxes));
  stride_nonzero = (search boxes, (search boxes, search boxes));
}

pub reach_along-requires : goal.reach_along-requires
reach_along-requires c = record {
  safe = (search boxes, (search boxes, search boxes));
  stride_nonzero = (search boxes, (search boxes, search boxes));
}

pub returns : goal.returns
returns c = search boxes
