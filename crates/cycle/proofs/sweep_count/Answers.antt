-- `cycle::sweep_count` meets its contract: nothing is shifted out. Assumes nothing.
use borrow.Author.Rules.{rules}
use Rattle.cycle.proofs.Laws.{doubled}
use Rattle.cycle.proofs.sweep_count.Goals as goal

pub returns : goal.returns
returns c = search (rules, doubled)
