-- `smooth::entries::pick_back` meets its contract, by the bit. Assumes nothing.
use borrow.Author.Rules.{rules}
use Rattle.smooth.proofs.EntryLaws.{pick_yes, pick_no}
use Rattle.smooth.proofs.entries.pick_back.Goals as goal

pub returns-then-e-unit-eq1-clause-value : goal.returns-then-e-unit-eq1-clause-value
returns-then-e-unit-eq1-clause-value c = search (rules, pick_yes)

pub returns-else-e-unit-eq1-clause-value : goal.returns-else-e-unit-eq1-clause-value
returns-else-e-unit-eq1-clause-value c = search (rules, pick_no)
