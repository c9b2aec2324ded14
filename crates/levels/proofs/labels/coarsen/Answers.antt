-- `levels::labels::coarsen` meets its contract: the coarse cells below c are labelled. Assumes nothing.
use Rattle.levels.proofs.Labelled.{coarsens}
use Rattle.levels.proofs.labels.coarsen.Goals as goal

pub cell_count-m-requires : goal.cell_count-m-requires
cell_count-m-requires c = search coarsens

pub loop-c-init : goal.loop-c-init
loop-c-init c = search coarsens

pub loop-c-preserved : goal.loop-c-preserved
loop-c-preserved c = search coarsens

pub returns : goal.returns
returns c = search coarsens
