-- `tick::size_of` meets its contract. Assumes nothing.
use Rattle.ticks.proofs.TickNear.{nears}
use Rattle.ticks.proofs.tick.size_of.Goals as goal

pub rounded-requires : goal.rounded-requires
unfolding lib.Ieee.of_bits
rounded-requires c = search nears

pub returns-else-y : goal.returns-else-y
unfolding lib.Ieee.of_bits
returns-else-y c = search nears
