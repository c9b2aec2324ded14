-- `quetzalcup::need` meets its contract: by sides in range and out of it. Assumes nothing.
use Rattle.quetzalcup.proofs.Laws.{sides_known, need_fit, no_need}
use Rattle.quetzalcup.proofs.need.Goals as goal

pub cell_count-requires : goal.cell_count-requires
cell_count-requires g c = sides_known _ _ c.sides_fit.ensures c.if-sides_fit.true

pub returns-then-sides_fit : goal.returns-then-sides_fit
returns-then-sides_fit g c = λ f h. need_fit _ _ c.sides_fit.ensures f _ _ (h _ _ c.cell_count.ensures.1 c.by.ensures) c.cell_count.ensures.0 c.if-sides_fit.true

pub returns-else-sides_fit : goal.returns-else-sides_fit
returns-else-sides_fit g c = λ f h. no_need _ _ c.sides_fit.ensures f c.if-sides_fit.false
