-- `bands::band::parent_has_other` meets its contract: no hit yet in the children before t. Assumes nothing.
use Rattle.bands.specs.Other.{child_other}
use Rattle.levels.proofs.Rooms.{None}
use Rattle.bands.proofs.band.parent_has_other.Given as goal

abbrev pub invariant-loop-t : goal.invariant-loop-t
invariant-loop-t l = None (child_other l.labels l.g l.k) l.t
