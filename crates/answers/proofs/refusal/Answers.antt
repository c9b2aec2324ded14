-- `answers::refusal` meets its contract. Assumes nothing.
use Rattle.method.specs.Answers.{refusal}
use borrow.Author.Rules.{rules}
use Rattle.answers.proofs.refusal.Goals as goal

pub returns : goal.returns
unfolding refusal
returns c = search rules
