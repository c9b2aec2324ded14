-- `distances::start_all` meets its contract: after i turns the openings among the first i cells are in the queue. Assumes
-- nothing.
use Rattle.laws.proofs.Loops.{Up}
use lib.ListN.{length}
use Rattle.distances.specs.Search.{queue, start, Safe}
use Rattle.method.specs.Cast.{is_opening}
use Rattle.distances.proofs.start_all.Given as goal

abbrev pub invariant-loop-i : goal.invariant-loop-i
invariant-loop-i l = Safe (length l.labels) (queue l.room l.tail) × Up (start (length l.labels) (is_opening l.labels)) (queue l.initial.room 0) l.i (queue l.room l.tail)
