-- `acceptance::refused_at` meets its contract: by the label and the tick. Assumes nothing.
use mathlib.Core.Path.{refl}
use Rattle.acceptance.proofs.Laws.{refused_by, refused_not}
use Rattle.acceptance.proofs.refused_at.Goals as goal

pub returns-then-label_at-eq0 : goal.returns-then-label_at-eq0
returns-then-label_at-eq0 c = refused_by _ _ _ _ c.label_at.ensures _ _ c.if-label_at-eq0.true c.to_tick.ensures c.is_none.ensures

pub returns-else-label_at-eq0 : goal.returns-else-label_at-eq0
returns-else-label_at-eq0 c = refused_not _ _ _ _ c.label_at.ensures _ refl c.if-label_at-eq0.false
