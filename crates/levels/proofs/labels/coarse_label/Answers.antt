-- `levels::labels::coarse_label` meets its contract: the label of the children so far. Assumes nothing.
use Rattle.levels.proofs.Kin.{ranks}
use Rattle.levels.proofs.labels.coarse_label.Goals as goal

pub spot_of-s-requires : goal.spot_of-s-requires
spot_of-s-requires c = search ranks

pub loop-t-init : goal.loop-t-init
loop-t-init c = search ranks

pub label_step-label-requires : goal.label_step-label-requires
label_step-label-requires c = search ranks

pub loop-t-preserved : goal.loop-t-preserved
loop-t-preserved c = search ranks

pub returns : goal.returns
returns c = search ranks
