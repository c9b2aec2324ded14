-- `bands::band::child_step` meets its contract. Assumes nothing.
use Rattle.levels.specs.Kin.{child_step}
use Rattle.bands.proofs.Blocks.{steps}
use Rattle.bands.proofs.band.child_step.Goals as goal

pub returns : goal.returns
unfolding child_step
returns c = search steps
