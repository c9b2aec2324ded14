-- `acceptance::write_ticks` meets its contract: after c turns the first c pressures stand. Assumes nothing.
use lib.ListN.{length-set}
use Rattle.laws.proofs.Loops.{ups}
use Rattle.acceptance.proofs.Laws.{written}
use Rattle.acceptance.proofs.write_ticks.Goals as goal

pub loop-c-init : goal.loop-c-init
loop-c-init c = search (ups, length-set)

pub loop-c-preserved : goal.loop-c-preserved
loop-c-preserved c = search (ups, length-set)

pub returns : goal.returns
returns c = search (ups, written)
