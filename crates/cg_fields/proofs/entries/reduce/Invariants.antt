-- `cg_fields::entries::reduce` meets its contract: after c turns the room is c stores on. Assumes nothing.
use Prim.Native.Nat.{◌*◌}
use Rattle.laws.proofs.Loops.{Up}
use Rattle.cg_fields.specs.Entries.{reduce_new, fill_at}
use Rattle.cg_fields.proofs.entries.reduce.Given as goal

abbrev pub invariant-loop-c : goal.invariant-loop-c
invariant-loop-c l = Up (fill_at (3 * l.n) (reduce_new l.n l.alpha)) l.initial.room l.c l.room
