-- `smooth::stencils::residual` meets its contract, by the contracts of the two that it calls. Assumes nothing.
use native.Mathlib.Omega.{arith}
use Prim.Native.Nat.{◌*◌}
use Rattle.rooms.proofs.Clears.{zeroed_part}
use Rattle.smooth.proofs.StencilLaws.{cleared_zero, residual_entries_is}
use Rattle.smooth.proofs.stencils.residual.Goals as goal

pub residual_list-requires-clause-zero_value : goal.residual_list-requires-clause-zero_value
residual_list-requires-clause-zero_value c =
    let r = c.requires.all_read in
    let m = zeroed_part (2 * c.args.lattice.n) c.args.lattice.n c.args.room.now _ (omega (arith, r.fields, r.zero_in)) c.clear_front.ensures in
    cleared_zero _ _ _ _ _ _ _ m r c.requires.zero_value

pub returns-clause-room_after : goal.returns-clause-room_after
returns-clause-room_after c =
    let r = c.requires.all_read in
    let m = zeroed_part (2 * c.args.lattice.n) c.args.lattice.n c.args.room.now _ (omega (arith, r.fields, r.zero_in)) c.clear_front.ensures in
    residual_entries_is _ _ _ _ _ _ _ _ m r c.residual_list.ensures.room_after
