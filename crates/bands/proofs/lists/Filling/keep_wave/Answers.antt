-- `bands::lists::Filling::keep_wave` meets its contract: up to k the lines stand in the room. Assumes nothing.
use Rattle.bands.proofs.Chosen.{on_waves}
use Rattle.bands.proofs.lists.Filling.keep_wave.Goals as goal

pub loop-k-init : goal.loop-k-init
loop-k-init c = search on_waves

pub keep_line-requires-clause-room : goal.keep_line-requires-clause-room
keep_line-requires-clause-room c = search on_waves

pub loop-k-preserved : goal.loop-k-preserved
loop-k-preserved c = search on_waves
