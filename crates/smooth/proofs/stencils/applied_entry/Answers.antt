-- `smooth::stencils::applied_entry` meets its contract, by what `gather` ensures of every cast. Assumes nothing.
use Rattle.smooth.proofs.StencilLaws.{applied_entry_is}
use Rattle.smooth.proofs.stencils.applied_entry.Goals as goal

pub returns : goal.returns
returns c =
    λ g ls h.
    let a = c.args in
    applied_entry_is g ls a.lattice.n a.lattice.nx a.lattice.plane a.e h a.room.now a.from (c.gather-sum.ensures g ls h)
