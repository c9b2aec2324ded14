-- `restriction::four_inside` meets its contract: all four are in the row. Assumes nothing.
use borrow.Author.Rules.{rules}
use Rattle.transfer.proofs.RowLaws.{inside_is}
use Rattle.restriction.proofs.four_inside.Goals as goal

pub returns : goal.returns
returns c = search (rules, inside_is)
