-- `distances::flood` meets its contract: after i turns the queue is i turns on. Assumes nothing.
use Rattle.laws.proofs.Loops.{Up}
use Rattle.distances.specs.Search.{queue, turn, Held}
use Rattle.method.specs.Cast.{cells, is_air, around}
use Rattle.distances.proofs.flood.Given as goal

abbrev pub invariant-loop-head : goal.invariant-loop-head
invariant-loop-head l = Held l.g l.labels (queue l.room l.tail) × Up (turn (cells l.g) (is_air l.labels) (around l.g)) (queue l.initial.room l.started) l.head (queue l.room l.tail)
