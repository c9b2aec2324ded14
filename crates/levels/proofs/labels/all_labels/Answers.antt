-- `levels::labels::all_labels` meets its contract: the labels of the levels 0 to level-index stand in the room. Assumes
-- nothing.
use Rattle.levels.proofs.Labelled.{nexts}
use Rattle.levels.proofs.labels.all_labels.Goals as goal

pub copy-requires : goal.copy-requires
copy-requires c = search nexts

pub loop-level-init : goal.loop-level-init
loop-level-init c = search nexts

pub coarsen-requires-clause-fit : goal.coarsen-requires-clause-fit
coarsen-requires-clause-fit c = search nexts

pub coarsen-requires-clause-g_in_bounds : goal.coarsen-requires-clause-g_in_bounds
coarsen-requires-clause-g_in_bounds c = search nexts

pub loop-level-preserved : goal.loop-level-preserved
loop-level-preserved c = search nexts

pub returns : goal.returns
returns c = search nexts
