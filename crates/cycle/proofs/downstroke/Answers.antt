-- `cycle::downstroke` meets its contract, by the contracts of Jacobi and the sweeps. Assumes nothing.
use Rattle.cycle.proofs.Laws.{strokes}
use Rattle.cycle.proofs.downstroke.Goals as goal

pub sweep_times-requires : goal.sweep_times-requires
sweep_times-requires c = search strokes

pub returns : goal.returns
returns c = search strokes
