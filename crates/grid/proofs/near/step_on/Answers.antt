-- `grid::near::step_on` meets its contract, by its test. Assumes nothing.
use Rattle.grid.proofs.Steps.{steps}
use Rattle.grid.proofs.near.step_on.Goals as goal

pub returns-then-c-stride : goal.returns-then-c-stride
returns-then-c-stride c = search steps

pub returns-else-c-stride : goal.returns-else-c-stride
returns-else-c-stride c = search steps
