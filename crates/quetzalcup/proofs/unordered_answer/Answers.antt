-- `quetzalcup::unordered_answer` meets its contract. Assumes nothing.
use Rattle.quetzalcup.proofs.Laws.{unordered_fit, unordered_unfit}
use Rattle.quetzalcup.proofs.unordered_answer.Goals as goal

pub returns-then-sides_fit : goal.returns-then-sides_fit
returns-then-sides_fit c = unordered_fit _ _ c.sides_fit.ensures _ c.if-sides_fit.true c.from.ensures

pub returns-else-sides_fit : goal.returns-else-sides_fit
returns-else-sides_fit c = unordered_unfit _ _ c.sides_fit.ensures _ c.if-sides_fit.false c.from-else-sides_fit.ensures
