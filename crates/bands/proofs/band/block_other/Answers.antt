-- `bands::band::block_other` meets its contract: the cell is the child, and inside. Assumes nothing.
use Rattle.bands.proofs.Hits.{on_blocks}
use Rattle.bands.proofs.band.block_other.Goals as goal

pub bounds-labels-at : goal.bounds-labels-at
bounds-labels-at c = search on_blocks

pub returns : goal.returns
returns c = search on_blocks
