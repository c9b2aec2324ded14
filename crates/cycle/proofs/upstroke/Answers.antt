-- `cycle::upstroke` meets its contract, by the contracts of the sweeps and Jacobi. Assumes nothing.
use Rattle.cycle.proofs.Laws.{strokes}
use Rattle.cycle.proofs.upstroke.Goals as goal

pub sweep_times-requires : goal.sweep_times-requires
sweep_times-requires c = search strokes

pub jacobi-requires-clause-quiet : goal.jacobi-requires-clause-quiet
jacobi-requires-clause-quiet c = search strokes

pub returns : goal.returns
returns c = search strokes
