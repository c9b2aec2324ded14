-- `bands::band::parent` meets its contract. Assumes nothing.
use borrow.Author.Rules.{rules}
use Rattle.levels.specs.Kin.{parent_at}
use Rattle.bands.proofs.band.parent.Goals as goal

pub returns : goal.returns
unfolding parent_at
returns c = search rules
