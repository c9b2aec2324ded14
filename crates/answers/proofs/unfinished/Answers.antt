-- `answers::unfinished` meets its contract. Assumes nothing.
use Rattle.method.specs.Answers.{unfinished}
use borrow.Author.Rules.{rules}
use Rattle.answers.proofs.unfinished.Goals as goal

pub returns : goal.returns
unfolding unfinished
returns c = search rules
