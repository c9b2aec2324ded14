-- `restriction::four_at` meets its contract: by the contract of one cell. Assumes nothing.
use borrow.Author.Rules.{rules}
use Rattle.transfer.proofs.RowLaws.{part_four}
use Rattle.restriction.proofs.four_at.Goals as goal

pub returns : goal.returns
returns c = search (rules, part_four)
