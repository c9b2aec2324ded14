-- `cg_fields::entries::apply` meets its contract, by the contracts of the two that it calls. Assumes nothing.
use Prim.Native.Nat.{◌*◌}
use native.Mathlib.Omega.{arith}
use Rattle.rooms.proofs.Clears.{zeroed_part}
use Rattle.cg_fields.proofs.Calm.{cleared_zero, apply_entries_is}
use Rattle.cg_fields.proofs.entries.apply.Goals as goal

pub apply_list-requires-clause-zero_value : goal.apply_list-requires-clause-zero_value
apply_list-requires-clause-zero_value c =
    let r = c.requires in
    let m = zeroed_part (4 * c.args.lattice.n) c.args.lattice.n c.args.room.now _ (omega (arith, r.all_read.zero_in)) c.clear_front.ensures in
    cleared_zero _ _ _ _ _ _ _ m r.all_read r.n_bound r.zero_value

pub returns-clause-room_after : goal.returns-clause-room_after
returns-clause-room_after c =
    let r = c.requires in
    let m = zeroed_part (4 * c.args.lattice.n) c.args.lattice.n c.args.room.now _ (omega (arith, r.all_read.zero_in)) c.clear_front.ensures in
    apply_entries_is _ _ _ _ _ _ _ _ m r.all_read r.n_bound c.apply_list.ensures.room_after
