-- `bands::lists::Filling::keep_rest` meets its contract: up to c the cells that are left stand in the room. Assumes nothing.
use Rattle.bands.proofs.Chosen.{on_left}
use Rattle.bands.proofs.lists.Filling.keep_rest.Goals as goal

pub loop-c-init : goal.loop-c-init
loop-c-init c = search on_left

pub keep_left-requires-clause-room : goal.keep_left-requires-clause-room
keep_left-requires-clause-room c = search on_left

pub loop-c-preserved : goal.loop-c-preserved
loop-c-preserved c = search on_left

pub returns : goal.returns
returns c = search on_left
