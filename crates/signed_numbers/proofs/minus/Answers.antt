-- `signed_numbers::minus` meets its contract. Assumes nothing.
use borrow.Author.Rules.{rules}
use Rattle.laws.specs.Whole.{◌+ᶻ◌, neg}
use Rattle.signed_numbers.proofs.Laws.{diff_fits}
use Rattle.signed_numbers.proofs.minus.Goals as goal

pub returns : goal.returns
unfolding ◌+ᶻ◌ neg
returns c = let f = diff_fits c.args.a c.args.b c.requires in search rules
