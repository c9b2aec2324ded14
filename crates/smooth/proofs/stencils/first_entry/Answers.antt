-- `smooth::stencils::first_entry` meets its contract, by what its callee ensures of every cast. Assumes nothing.
use native.Mathlib.Omega.{arith}
use Prim.Native.Nat.{◌*◌}
use Rattle.smooth.proofs.StencilLaws.{first_entry_is}
use Rattle.smooth.proofs.stencils.first_entry.Goals as goal

pub returns : goal.returns
returns c =
    let a = c.args in
    λ g ls h. first_entry_is g ls a.n g.nx (g.nx * g.ny) a.e h a.room.now (c.slice_known-1.given _) (omega arith)
