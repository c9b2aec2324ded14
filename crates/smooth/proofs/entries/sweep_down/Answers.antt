-- `smooth::entries::sweep_down` meets its contract: with k turns left, which stand at the front of the list, what they
-- make of the room is what all make of the first. Assumes nothing.
use native.Mathlib.Omega.{arith}
use Rattle.smooth.proofs.EntryLaws.{falling, falling_end, front_all, front_less, front_entry, front_more}
use Rattle.smooth.proofs.entries.sweep_down.Goals as goal

pub loop-e-init : goal.loop-e-init
loop-e-init c = search (falling, front_all)

pub relax_entry-requires-clause-reads : goal.relax_entry-requires-clause-reads
relax_entry-requires-clause-reads c = front_entry _ _ c.loop-e.invariant.0 c.in-Some.ensures.steps c.requires.all_read

pub loop-e-preserved : goal.loop-e-preserved
loop-e-preserved c =
    (front_less _ _ c.loop-e.invariant.0 c.in-Some.ensures.steps, search falling, front_more _ _ c.loop-e.invariant.0 c.in-Some.ensures.steps c.loop-e.invariant.2 c.relax_entry.ensures.room_after)

pub returns-clause-room_after : goal.returns-clause-room_after
returns-clause-room_after c = falling_end c.loop-e.invariant.2 (omega (arith, c.in-None.ensures.steps.0)) (omega arith)
