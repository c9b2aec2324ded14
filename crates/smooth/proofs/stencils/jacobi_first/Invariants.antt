-- `smooth::stencils::jacobi_first` meets its contract: after k turns the room is k stores on. Assumes nothing.
use Prim.Native.Nat.{◌*◌}
use Rattle.smooth.specs.Entries.{Entry}
use Rattle.smooth.specs.Stencils.{first_new}
use Rattle.smooth.proofs.StencilLaws.{Wrote}
use Rattle.smooth.proofs.stencils.jacobi_first.Given as goal

abbrev pub invariant-loop-e : goal.invariant-loop-e
invariant-loop-e l = Wrote (λ g ls e. Entry g ls l.n g.nx (g.nx * g.ny) e) 0 first_new l.list l.initial.room l.e-index l.room
