-- `cg_fields::entries::apply_list` meets its contract: after k turns the room is k stores on. Assumes nothing.
use Prim.Native.Nat.{◌*◌}
use mathlib.Core.Path.{◌≡◌}
use Rattle.laws.specs.Binary64.{+0}
use Rattle.method.specs.Transfers.{value}
use Rattle.smooth.specs.Entries.{Entry}
use Rattle.smooth.proofs.StencilLaws.{Wrote}
use Rattle.cg_fields.specs.Entries.{applied_new}
use Rattle.cg_fields.proofs.entries.apply_list.Given as goal

abbrev pub invariant-loop-e : goal.invariant-loop-e
invariant-loop-e l = (value l.room l.lattice.zero ≡ +0) × Wrote (λ g ls e. Entry g ls l.lattice.n l.lattice.nx l.lattice.plane e) (4 * l.lattice.n) applied_new l.list l.initial.room l.e-index l.room
