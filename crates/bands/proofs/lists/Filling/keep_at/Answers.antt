-- `bands::lists::Filling::keep_at` meets its contract. Assumes nothing.
use Rattle.bands.proofs.Chosen.{on_waves}
use Rattle.bands.proofs.lists.Filling.keep_at.Goals as goal

pub returns-then-w-near : goal.returns-then-w-near
returns-then-w-near c = search on_waves

pub returns-then-g-i : goal.returns-then-g-i
returns-then-g-i c = search on_waves

pub keep_cell-requires-clause-c_bound : goal.keep_cell-requires-clause-c_bound
keep_cell-requires-clause-c_bound c = search on_waves

pub keep_cell-requires-clause-room : goal.keep_cell-requires-clause-room
keep_cell-requires-clause-room c = search on_waves

pub returns : goal.returns
returns c = search on_waves
