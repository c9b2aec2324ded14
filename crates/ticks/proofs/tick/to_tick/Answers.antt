-- `tick::to_tick` meets its contract, by the sign of x. Assumes nothing.
use Rattle.ticks.proofs.TickLaws.{ticking, low_tick, high_tick}
use Rattle.ticks.proofs.tick.to_tick.Goals as goal

pub size_of-requires : goal.size_of-requires
unfolding lib.Ieee.of_bits
size_of-requires c = search ticking

pub returns-then-x : goal.returns-then-x
unfolding lib.Ieee.of_bits
returns-then-x c = search (low_tick)

pub returns-then-x-2 : goal.returns-then-x-2
unfolding lib.Ieee.of_bits
returns-then-x-2 c = search (high_tick)

pub returns-then-x-3 : goal.returns-then-x-3
unfolding lib.Ieee.of_bits
returns-then-x-3 c = search ticking

pub returns : goal.returns
unfolding lib.Ieee.of_bits
returns c = search ticking
