-- `bands::lists::Filling::keep` meets its contract. Assumes nothing.
use Rattle.bands.proofs.Chosen.{keeps}
use Rattle.bands.proofs.lists.Filling.keep.Goals as goal

pub bounds-self-self : goal.bounds-self-self
bounds-self-self c = search keeps

pub returns-then-yes : goal.returns-then-yes
returns-then-yes c = search keeps

pub returns-else-yes : goal.returns-else-yes
returns-else-yes c = search keeps
