-- `tick::whole_back` meets its contract: the tick's number, or 0. Assumes nothing.
use Rattle.ticks.proofs.TickWhole.{back_is}
use Rattle.ticks.proofs.tick.whole_back.Goals as goal

pub returns : goal.returns
returns c = back_is c.args.x _ _ (record { sfits = c.unwrap_or.type_inv }) c.to_tick.ensures c.unwrap_or.ensures
