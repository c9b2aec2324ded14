-- `bands::lists::Filling::keep_waves` meets its contract: up to w the waves stand in the room. Assumes nothing.
use Rattle.bands.proofs.Chosen.{on_lists}
use Rattle.bands.proofs.lists.Filling.keep_waves.Goals as goal

pub loop-w-init : goal.loop-w-init
loop-w-init c = search on_lists

pub keep_wave-requires-clause-room : goal.keep_wave-requires-clause-room
keep_wave-requires-clause-room c = search on_lists

pub loop-w-preserved : goal.loop-w-preserved
loop-w-preserved c = search on_lists

pub returns : goal.returns
returns c = search on_lists
