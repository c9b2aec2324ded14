-- `bands::lists::Filling::keep_line` meets its contract: up to j the cells stand in the room. Assumes nothing.
use Rattle.bands.proofs.Chosen.{on_waves}
use Rattle.bands.proofs.lists.Filling.keep_line.Goals as goal

pub loop-j-init : goal.loop-j-init
loop-j-init c = search on_waves

pub keep_at-requires-clause-room : goal.keep_at-requires-clause-room
keep_at-requires-clause-room c = search on_waves

pub loop-j-preserved : goal.loop-j-preserved
loop-j-preserved c = search on_waves
