-- `bands::band::corner` meets its contract, by its tests. Assumes nothing.
use Rattle.laws.proofs.Loops.{branches}
use Rattle.bands.specs.Other.{four_in, block_in, corner_of}
use Rattle.bands.proofs.band.corner.Goals as goal

pub returns-then-ended : goal.returns-then-ended
unfolding four_in block_in corner_of
returns-then-ended c = search branches

pub returns-else-begun : goal.returns-else-begun
unfolding four_in block_in corner_of
returns-else-begun c = search branches
