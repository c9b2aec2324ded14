-- `transfer::weights::axis` meets its contract, by the four places. Assumes nothing.
use borrow.Author.Rules.{rules}
use Rattle.transfer.proofs.Laws.{axis_middle, axis_end}
use Rattle.transfer.proofs.weights.axis.Goals as goal

pub returns-then-q-eq1 : goal.returns-then-q-eq1
returns-then-q-eq1 c = search (rules, axis_middle)

pub returns-else-q-eq1 : goal.returns-else-q-eq1
returns-else-q-eq1 c = search (rules, axis_end)
