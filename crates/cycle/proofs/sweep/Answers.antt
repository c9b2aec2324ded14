-- `cycle::sweep` meets its contract, by the branch that is taken: the sweep is promised for every cast, and so for the
-- one whose labels are at hand. Assumes nothing.
use Rattle.smooth.proofs.EntryLaws.{lattices}
use Rattle.cycle.proofs.Laws.{forward_is, back_is}
use Rattle.cycle.proofs.sweep.Goals as goal

pub sweep_up-requires-clause-all_read : goal.sweep_up-requires-clause-all_read
sweep_up-requires-clause-all_read c = search lattices

pub sweep_down-requires-clause-all_read : goal.sweep_down-requires-clause-all_read
sweep_down-requires-clause-all_read c = search lattices

pub returns-then-forward-clause-room_after_2 : goal.returns-then-forward-clause-room_after_2
returns-then-forward-clause-room_after_2 c = forward_is c.args.forward c.args.g c.args.labels.now _ _ _ c.if-forward.true (c.sweep_up.ensures.room_after c.args.g c.args.labels.now (search lattices))

pub returns-else-forward-clause-room_after_2 : goal.returns-else-forward-clause-room_after_2
returns-else-forward-clause-room_after_2 c = back_is c.args.forward c.args.g c.args.labels.now _ _ _ c.if-forward.false (c.sweep_down.ensures.room_after c.args.g c.args.labels.now (search lattices))
