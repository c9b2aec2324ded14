-- `smooth::stencils::residual_entry` meets its contract, by what its callee ensures of every cast. Assumes nothing.
use Rattle.smooth.proofs.StencilLaws.{residual_entry_is}
use Rattle.smooth.proofs.stencils.residual_entry.Goals as goal

pub returns-clause-room_after : goal.returns-clause-room_after
returns-clause-room_after c =
    let a = c.args in
    λ g ls h. residual_entry_is g ls a.lattice.n a.lattice.nx a.lattice.plane a.e h a.room.now (c.applied_entry-a.ensures g ls h)
