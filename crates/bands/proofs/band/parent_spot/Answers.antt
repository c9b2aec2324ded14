-- `bands::band::parent_spot` meets its contract. Assumes nothing.
use borrow.Author.Rules.{rules}
use Rattle.levels.specs.Kin.{parent_spot}
use Rattle.bands.proofs.band.parent_spot.Goals as goal

pub returns : goal.returns
unfolding parent_spot
returns c = search rules
