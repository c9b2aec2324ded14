-- `bands::band::in_block_other` meets its contract: no hit yet in the parents before q. Assumes nothing.
use Rattle.method.specs.Levels.{halved}
use Rattle.bands.specs.Other.{parent_other}
use Rattle.levels.proofs.Rooms.{None}
use Rattle.bands.proofs.band.in_block_other.Given as goal

abbrev pub invariant-loop-q : goal.invariant-loop-q
invariant-loop-q l = None (parent_other l.labels l.g (halved l.g) l.s) l.q
