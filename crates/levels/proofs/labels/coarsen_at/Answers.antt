-- `levels::labels::coarsen_at` meets its contract. Assumes nothing.
use Rattle.levels.proofs.Labelled.{coarsens}
use Rattle.levels.proofs.labels.coarsen_at.Goals as goal

pub returns : goal.returns
returns c = search coarsens
