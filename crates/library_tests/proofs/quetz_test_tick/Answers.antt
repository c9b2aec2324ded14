-- `library_tests::quetz_test_tick` meets its contract. Assumes nothing.
use borrow.Author.Rules.{rules}
use Rattle.library_tests.proofs.Laws.{calling, tick_whole}
use Rattle.library_tests.proofs.quetz_test_tick.Goals as goal

pub returns-in-Some : goal.returns-in-Some
returns-in-Some c = tick_whole c.args.x _ _ (search rules) c.to_tick.ensures c.in-Some.is

pub returns-in-None : goal.returns-in-None
returns-in-None c = search calling
