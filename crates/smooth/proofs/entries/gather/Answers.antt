-- `smooth::entries::gather` meets its contract: each of the six is read at a place that is picked. Assumes nothing.
use Rattle.smooth.proofs.EntryLaws.{sum_is}
use Rattle.smooth.proofs.entries.gather.Goals as goal

pub returns : goal.returns
returns c =
    λ g ls h.
    let a = c.args in
    sum_is g ls a.lattice.n a.lattice.nx a.lattice.plane a.e h a.room.now a.lattice.zero c.requires.zero_value c.shared_slice_known-7-1.given
    c.pick_back-west.ensures.value
    c.pick_on-east.ensures.value
    c.pick_back-south.ensures.value
    c.pick_on-north.ensures.value
    c.pick_back-below.ensures.value
    c.pick_on-above.ensures.value
