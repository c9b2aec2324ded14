-- `transfer::weights::product` meets its contract, by the contract of one axis. Assumes nothing.
use borrow.Author.Rules.{rules}
use Rattle.transfer.proofs.Laws.{product_is}
use Rattle.transfer.proofs.weights.product.Goals as goal

pub returns : goal.returns
returns c = search (rules, product_is)
