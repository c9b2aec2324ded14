-- `cycle::coarsest` meets its contract: after i turns the room is i sweeps on. Assumes nothing.
use Prim.Native.Nat.{◌-◌}
use mathlib.Core.Path.{◌≡◌}
use lib.ListN.{length}
use Rattle.laws.specs.Binary64.{+0}
use Rattle.laws.proofs.Loops.{Up}
use Rattle.method.specs.Transfers.{value}
use Rattle.grid.specs.Entries.{cells_of}
use Rattle.cycle.specs.Strokes.{coarsest_turn}
use Rattle.cycle.proofs.coarsest.Given as goal

abbrev pub invariant-loop-i : goal.invariant-loop-i
invariant-loop-i l = (value l.room (length l.room - 1) ≡ +0) × Up (coarsest_turn l.g l.labels (cells_of l.list)) l.initial.room l.i l.room
