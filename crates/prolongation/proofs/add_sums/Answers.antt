-- `prolongation::add_sums` meets its contract: after c turns the first c cells are corrected. Assumes nothing.
use Rattle.laws.proofs.Loops.{ups}
use Rattle.prolongation.proofs.add_sums.Goals as goal

pub loop-c-init : goal.loop-c-init
loop-c-init c = search ups

pub loop-c-preserved : goal.loop-c-preserved
loop-c-preserved c = search ups
