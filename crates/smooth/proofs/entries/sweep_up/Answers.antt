-- `smooth::entries::sweep_up` meets its contract: after k turns the room is k turns on. Assumes nothing.
use native.Mathlib.Omega.{arith}
use Rattle.smooth.proofs.EntryLaws.{rising, rising_end}
use Rattle.smooth.proofs.entries.sweep_up.Goals as goal

pub loop-e-init : goal.loop-e-init
loop-e-init c = search rising

pub loop-e-preserved : goal.loop-e-preserved
loop-e-preserved c = search rising

pub returns-clause-room_after : goal.returns-clause-room_after
returns-clause-room_after c = rising_end c.loop-e.invariant.1 (omega arith) (omega arith) (omega arith)
