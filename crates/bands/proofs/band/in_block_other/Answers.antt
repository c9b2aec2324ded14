-- `bands::band::in_block_other` meets its contract: no hit yet in the parents before q. Assumes nothing.
use Rattle.bands.proofs.Hits.{on_blocks}
use Rattle.bands.proofs.band.in_block_other.Goals as goal

pub loop-q-init : goal.loop-q-init
loop-q-init c = search on_blocks

pub returns-then-block_parent_other : goal.returns-then-block_parent_other
returns-then-block_parent_other c = search on_blocks

pub loop-q-preserved : goal.loop-q-preserved
loop-q-preserved c = search on_blocks
