-- `restriction::end_sums` meets its contract: after c turns the first c sums are divided. Assumes nothing.
use Rattle.laws.proofs.Loops.{ups}
use Rattle.restriction.proofs.end_sums.Goals as goal

pub loop-c-init : goal.loop-c-init
loop-c-init c = search ups

pub loop-c-preserved : goal.loop-c-preserved
loop-c-preserved c = search ups
