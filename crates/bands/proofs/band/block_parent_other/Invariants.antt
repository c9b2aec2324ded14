-- `bands::band::block_parent_other` meets its contract: no hit yet in the children before t. Assumes nothing.
use Rattle.bands.specs.Other.{child_other}
use Rattle.levels.specs.Kin.{parent_spot}
use Rattle.levels.proofs.Rooms.{None}
use Rattle.bands.proofs.band.block_parent_other.Given as goal

abbrev pub invariant-loop-t : goal.invariant-loop-t
invariant-loop-t l = None (child_other l.labels l.g (parent_spot l.s l.q)) l.t
