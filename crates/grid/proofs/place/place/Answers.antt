-- `place::place` meets its contract, by its tests. Assumes nothing.
use Rattle.laws.proofs.Loops.{branches}
use Rattle.grid.specs.Place.{place_at}
use Rattle.grid.proofs.place.place.Goals as goal

pub returns-then-inside : goal.returns-then-inside
unfolding place_at
returns-then-inside c = search branches

pub returns-else-inside : goal.returns-else-inside
unfolding place_at
returns-else-inside c = search branches
