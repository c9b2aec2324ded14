-- `distances::deepest` meets its contract: after i turns the first i cells are looked at. Assumes nothing.
use Rattle.laws.proofs.Loops.{Up}
use Rattle.distances.specs.Search.{deeper}
use Rattle.distances.proofs.deepest.Given as goal

abbrev pub invariant-loop-i : goal.invariant-loop-i
invariant-loop-i l = Up (deeper l.labels l.room) 0 l.i l.d
