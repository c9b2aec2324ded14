-- `cg_fields::entries::aim_by_list` meets its contract: by the contracts of the three that it calls. Assumes nothing.
use Prim.Native.Nat.{◌*◌}
use native.Mathlib.Omega.{arith}
use Rattle.rooms.proofs.Clears.{zeroed_part}
use Rattle.cg_fields.proofs.Aims.{by_list_is}
use Rattle.cg_fields.proofs.entries.aim_by_list.Goals as goal

pub returns : goal.returns
returns c =
    let a = c.args in
    let m = zeroed_part (4 * a.n) a.n a.room.now _ (omega arith) c.clear_front.ensures in
    by_list_is a.n a.done a.beta a.list.now a.room.now _ _ _ m c.aim_list.ensures c.take_t.ensures c.requires.n_in_bounds
