-- `cg_fields::entries::aim_all` meets its contract: after c turns the room is c stores on. Assumes nothing.
use native.Mathlib.Omega.{arith}
use Rattle.laws.proofs.Loops.{ups}
use Rattle.cg_fields.proofs.Aims.{aim_more, aim_quiet}
use Rattle.cg_fields.proofs.entries.aim_all.Goals as goal

pub loop-c-init : goal.loop-c-init
loop-c-init c = search ups

pub loop-c-preserved : goal.loop-c-preserved
loop-c-preserved c = search (aim_more)

pub returns : goal.returns
returns c = aim_quiet c.loop-c.invariant (omega arith) (omega arith) (omega arith) (search ups)
