-- `cg_fields::load_at` meets its contract, by the cell's label. Assumes nothing.
use Rattle.cg_fields.proofs.Turns.{cell}
use Rattle.cg_fields.proofs.load_at.Goals as goal

pub returns-then-labels-c-eq0 : goal.returns-then-labels-c-eq0
returns-then-labels-c-eq0 c = search cell

pub returns-else-labels-c-eq0 : goal.returns-else-labels-c-eq0
unfolding lib.Ieee.of_bits
returns-else-labels-c-eq0 c = search cell
