-- `cg_fields::entries::aim_list` meets its contract: after k turns the room is k stores on. Assumes nothing.
use Prim.Native.Nat.{◌*◌}
use Rattle.cg_fields.specs.Entries.{aim_new}
use Rattle.cg_fields.proofs.Aims.{Listed}
use Rattle.cg_fields.proofs.entries.aim_list.Given as goal

abbrev pub invariant-loop-e : goal.invariant-loop-e
invariant-loop-e l = Listed (4 * l.n) (aim_new l.n l.done l.beta) l.list l.initial.room l.e-index l.room
