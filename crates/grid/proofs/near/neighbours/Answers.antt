-- `grid::near::neighbours` meets its contract, by the contracts of the steps. Assumes nothing.
use Rattle.grid.proofs.Steps.{steps}
use Rattle.grid.proofs.near.neighbours.Goals as goal

pub step_on-north-requires : goal.step_on-north-requires
step_on-north-requires c = search steps

pub step_on-above-requires : goal.step_on-above-requires
step_on-above-requires c = search steps

pub returns : goal.returns
returns c = search steps
