-- `cycle::sweep_times` meets its contract: after so many turns the room is so many sweeps on. Assumes nothing.
use Rattle.cycle.proofs.Laws.{sweeping}
use Rattle.cycle.proofs.sweep_times.Goals as goal

pub loop-init : goal.loop-init
loop-init c = search sweeping

pub loop-preserved : goal.loop-preserved
loop-preserved c = search sweeping

pub returns : goal.returns
returns c = search sweeping
