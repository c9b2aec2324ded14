-- `acceptance::whole_at` meets its contract: by the label. Assumes nothing.
use borrow.Author.Rules.{sfits_of}
use Rattle.signed_numbers.proofs.Laws.{gives_wide}
use Rattle.acceptance.proofs.Laws.{pressure_air, pressure_opening, pressure_wall}
use Rattle.acceptance.proofs.whole_at.Goals as goal

pub returns-then-label-eq0 : goal.returns-then-label-eq0
returns-then-label-eq0 c = search (pressure_air)

pub returns-then-label-eq1 : goal.returns-then-label-eq1
returns-then-label-eq1 c = search (pressure_opening, gives_wide, sfits_of)

pub returns : goal.returns
returns c = search (pressure_wall)
