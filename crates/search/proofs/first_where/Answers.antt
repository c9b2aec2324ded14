-- `search::first_where` meets its contract: at no cell before c does the test pass. Assumes nothing.
use Rattle.theory.proofs.Firsts.{none_none, none_more, hit}
use Rattle.search.proofs.first_where.Goals as goal

pub loop-c-init : goal.loop-c-init
loop-c-init g c = λ t h. none_none t

pub returns-then-test : goal.returns-then-test
returns-then-test g c = λ t h. hit t _ _ c.test.result c.loop-c-test.true (c.loop-c.invariant t h) (h _ _ c.loop-c-test.true c.test.ensures) c.if-test.true

pub loop-c-preserved : goal.loop-c-preserved
loop-c-preserved g c = λ t h. none_more t _ c.test.result (c.loop-c.invariant t h) (h _ _ c.loop-c-test.true c.test.ensures) c.if-test.false
