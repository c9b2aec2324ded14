-- `prolongation::add_sum` meets its contract, by the contract of the value. Assumes nothing.
use Rattle.transfer.proofs.Ends.{plus_set}
use borrow.Author.Rules.{rules}
use Rattle.prolongation.proofs.add_sum.Goals as goal

pub returns : goal.returns
returns c = search (rules, plus_set)
