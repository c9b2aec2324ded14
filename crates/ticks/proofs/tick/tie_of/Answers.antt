-- `tick::tie_of` meets its contract, by the two laws of the rule for halves. Assumes nothing.
use Rattle.std.proofs.Common.{rules}
use Rattle.ticks.proofs.TickNear.{tie_even, tie_odd}
use Rattle.ticks.proofs.tick.tie_of.Goals as goal

pub returns-then-even : goal.returns-then-even
returns-then-even c = search (rules, tie_even)

pub returns-else-even : goal.returns-else-even
returns-else-even c = search (rules, tie_odd)
