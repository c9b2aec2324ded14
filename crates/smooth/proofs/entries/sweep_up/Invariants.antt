-- `smooth::entries::sweep_up` meets its contract: after k turns the room is k turns on. Assumes nothing.
use mathlib.Core.Path.{◌≡◌}
use Rattle.laws.specs.Binary64.{+0}
use Rattle.method.specs.Transfers.{value}
use Rattle.smooth.proofs.EntryLaws.{Rising}
use Rattle.smooth.proofs.entries.sweep_up.Given as goal

abbrev pub invariant-loop-e : goal.invariant-loop-e
invariant-loop-e l = (value l.room l.lattice.zero ≡ +0) × Rising l.lattice.n l.lattice.nx l.lattice.plane l.list l.initial.room l.e-index l.room
