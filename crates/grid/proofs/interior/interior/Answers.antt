use Rattle.grid.proofs.Counts.{counts}
use Rattle.grid.proofs.interior.interior.Goals as goal

pub loop-c-init : goal.loop-c-init
loop-c-init c = search counts

pub count_at-k-requires : goal.count_at-k-requires
count_at-k-requires c = search counts

pub loop-c-preserved : goal.loop-c-preserved
loop-c-preserved c = search counts

pub returns : goal.returns
returns c = search counts
