-- `bands::band::child_from` meets its contract. Assumes nothing.
use Rattle.bands.proofs.Blocks.{blocks}
use Rattle.bands.proofs.band.child_from.Goals as goal

pub overflow_add-result : goal.overflow_add-result
overflow_add-result c = search blocks

pub returns-then-first-n : goal.returns-then-first-n
returns-then-first-n c = search blocks

pub returns : goal.returns
returns c = search blocks
