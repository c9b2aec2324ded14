-- `bands::lists::is_in_band` meets its contract. Assumes nothing.
use Rattle.bands.proofs.Chosen.{smoothes}
use Rattle.bands.proofs.lists.is_in_band.Goals as goal

pub cell_count-m-requires : goal.cell_count-m-requires
cell_count-m-requires c = search smoothes
