-- `signed_numbers::plus` meets its contract. Assumes nothing.
use borrow.Author.Rules.{rules}
use Rattle.laws.specs.Whole.{◌+ᶻ◌}
use Rattle.signed_numbers.proofs.Laws.{sum_fits}
use Rattle.signed_numbers.proofs.plus.Goals as goal

pub returns : goal.returns
unfolding ◌+ᶻ◌
returns c = let f = sum_fits c.args.a c.args.b c.requires in search rules
