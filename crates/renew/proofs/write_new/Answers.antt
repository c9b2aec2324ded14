-- `renew::write_new` meets its contract: what the reader accepted, written. Assumes nothing.
use Rattle.renew.proofs.RenewLaws.{newly}
use Rattle.renew.proofs.write_new.Goals as goal

pub cell_count-n-requires : goal.cell_count-n-requires
cell_count-n-requires c = search newly

pub slice_bounds-write-end : goal.slice_bounds-write-end
slice_bounds-write-end c = search newly

pub returns : goal.returns
returns c = search newly
