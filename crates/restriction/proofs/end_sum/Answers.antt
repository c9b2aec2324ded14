-- `restriction::end_sum` meets its contract, by the contract of the value. Assumes nothing.
use Rattle.transfer.proofs.Ends.{over_set}
use borrow.Author.Rules.{rules}
use Rattle.restriction.proofs.end_sum.Goals as goal

pub returns : goal.returns
returns c = search (rules, over_set)
