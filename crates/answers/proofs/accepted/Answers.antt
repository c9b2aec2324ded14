-- `answers::accepted` meets its contract. Assumes nothing.
use Rattle.method.specs.Answers.{accepted}
use borrow.Author.Rules.{rules}
use Rattle.answers.proofs.accepted.Goals as goal

pub returns : goal.returns
unfolding accepted
returns c = search rules
