-- `grid::near::label_at` meets its contract. Assumes nothing.
use Rattle.grid.proofs.Steps.{steps}
use Rattle.grid.proofs.near.label_at.Goals as goal

pub returns-then-j-labels : goal.returns-then-j-labels
returns-then-j-labels c = search steps

pub returns-else-j-labels : goal.returns-else-j-labels
returns-else-j-labels c = search steps
