-- `cycle::coarsest` meets its contract: after i turns the room is i sweeps on. Assumes nothing.
use Rattle.cycle.proofs.Laws.{strokes}
use Rattle.cycle.proofs.coarsest.Goals as goal

pub loop-i-init : goal.loop-i-init
loop-i-init c = search strokes

pub coarsest_sweep-requires-clause-entry_level : goal.coarsest_sweep-requires-clause-entry_level
coarsest_sweep-requires-clause-entry_level c = search strokes

pub loop-i-preserved : goal.loop-i-preserved
loop-i-preserved c = search strokes

pub returns : goal.returns
returns c = search strokes
