-- `bands::band::block_parent_other` meets its contract: no hit yet in the children before t. Assumes nothing.
use Rattle.bands.proofs.Hits.{on_blocks}
use Rattle.bands.proofs.band.block_parent_other.Goals as goal

pub loop-t-init : goal.loop-t-init
loop-t-init c = search on_blocks

pub returns-then-block_other : goal.returns-then-block_other
returns-then-block_other c = search on_blocks

pub loop-t-preserved : goal.loop-t-preserved
loop-t-preserved c = search on_blocks

pub returns : goal.returns
returns c = search on_blocks
