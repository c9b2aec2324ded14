-- `smooth::stencils::residual_list` meets its contract: after k turns the room is k stores on. Assumes nothing.
use native.Mathlib.Omega.{arith}
use Rattle.smooth.proofs.StencilLaws.{writing, wrote_end}
use Rattle.smooth.proofs.stencils.residual_list.Goals as goal

pub loop-e-init : goal.loop-e-init
loop-e-init c = search writing

pub loop-e-preserved : goal.loop-e-preserved
loop-e-preserved c = search writing

pub returns-clause-room_after : goal.returns-clause-room_after
returns-clause-room_after c = λ g ls e. wrote_end c.loop-e.invariant.1 (omega arith) (omega arith) g ls e.at
