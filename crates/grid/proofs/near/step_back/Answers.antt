-- `grid::near::step_back` meets its contract, by its test. Assumes nothing.
use Rattle.grid.proofs.Steps.{steps}
use Rattle.grid.proofs.near.step_back.Goals as goal

pub returns-then-c-stride-gt0 : goal.returns-then-c-stride-gt0
returns-then-c-stride-gt0 c = search steps

pub returns-else-c-stride-gt0 : goal.returns-else-c-stride-gt0
returns-else-c-stride-gt0 c = search steps
