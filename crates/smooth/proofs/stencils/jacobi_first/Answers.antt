-- `smooth::stencils::jacobi_first` meets its contract: after k turns the room is k stores on. Assumes nothing.
use mathlib.Core.Path.{◌∙◌}
use native.Mathlib.Omega.{arith}
use Rattle.grid.specs.Entries.{cells_of}
use Rattle.smooth.proofs.StencilLaws.{writing, wrote_end, first_covered}
use Rattle.smooth.proofs.stencils.jacobi_first.Goals as goal

pub loop-e-init : goal.loop-e-init
loop-e-init c = search writing

pub loop-e-preserved : goal.loop-e-preserved
loop-e-preserved c = search writing

pub returns : goal.returns
returns c =
    let a = c.args in
    λ g ls e z.
    wrote_end c.loop-e.invariant (omega arith) (omega arith) g ls e.entries.at
    ∙ first_covered g ls (cells_of a.list.now) e.covers a.room.now (omega (arith, e.entries.n_is)) z
