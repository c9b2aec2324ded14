-- `smooth::entries::sweep_down` meets its contract: with k turns left, which stand at the front of the list, what they
-- make of the room is what all make of the first. Assumes nothing.
use mathlib.Core.Path.{◌≡◌}
use lib.ListN.{length}
use Rattle.laws.specs.Binary64.{+0}
use Rattle.method.specs.Transfers.{value}
use Rattle.smooth.proofs.EntryLaws.{Front, Falling}
use Rattle.smooth.proofs.entries.sweep_down.Given as goal

abbrev pub invariant-loop-e : goal.invariant-loop-e
invariant-loop-e l = Front l.list l.e-iterator.iter.rest.now × (value l.room l.lattice.zero ≡ +0) × Falling l.lattice.n l.lattice.nx l.lattice.plane l.list l.initial.room (length l.e-iterator.iter.rest.now) l.room
