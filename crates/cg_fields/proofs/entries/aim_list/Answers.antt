-- `cg_fields::entries::aim_list` meets its contract: after k turns the room is k stores on. Assumes nothing.
use native.Mathlib.Omega.{arith}
use Rattle.cg_fields.proofs.Aims.{listing, listed_end}
use Rattle.cg_fields.proofs.entries.aim_list.Goals as goal

pub loop-e-init : goal.loop-e-init
loop-e-init c = search listing

pub loop-e-preserved : goal.loop-e-preserved
loop-e-preserved c = search listing

pub returns : goal.returns
returns c = listed_end c.loop-e.invariant (omega arith) (omega arith)
