-- `bands::lists::Filling::keep_level` meets its contract. Assumes nothing.
use Rattle.bands.proofs.Gathered.{levelling}
use Rattle.bands.proofs.lists.Filling.keep_level.Goals as goal

pub keep_air-requires-clause-room : goal.keep_air-requires-clause-room
keep_air-requires-clause-room c = search levelling

pub returns : goal.returns
returns c = search levelling
