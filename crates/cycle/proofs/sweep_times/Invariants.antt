-- `cycle::sweep_times` meets its contract: after so many turns the room is so many sweeps on. Assumes nothing.
use Prim.Native.Nat.{◌-◌}
use mathlib.Core.Path.{◌≡◌}
use lib.ListN.{length}
use Rattle.laws.specs.Binary64.{+0}
use Rattle.laws.proofs.Loops.{Up}
use Rattle.method.specs.Transfers.{value}
use Rattle.grid.specs.Entries.{cells_of}
use Rattle.cycle.proofs.Laws.{turn}
use Rattle.cycle.proofs.sweep_times.Given as goal

abbrev pub invariant-loop : goal.invariant-loop
invariant-loop l = (value l.room (length l.room - 1) ≡ +0) × Up (turn l.forward l.g l.labels (cells_of l.list)) l.initial.room l.counter l.room
