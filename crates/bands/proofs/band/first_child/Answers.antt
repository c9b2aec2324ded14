-- `bands::band::first_child` meets its contract, by its tests. Assumes nothing.
use Rattle.laws.proofs.Loops.{branches}
use Rattle.levels.specs.Kin.{whole_in, first_child}
use Rattle.bands.proofs.band.first_child.Goals as goal

pub returns-then-whole : goal.returns-then-whole
unfolding first_child whole_in
returns-then-whole c = search branches

pub returns-else-whole : goal.returns-else-whole
unfolding first_child whole_in
returns-else-whole c = search branches
