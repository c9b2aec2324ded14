-- `cycle::lower` meets its contract, by the contracts of the two that it calls. Assumes nothing.
use Rattle.cycle.proofs.Laws.{lowering, lower_quiet}
use Rattle.cycle.proofs.lower.Goals as goal

pub restrict-requires-clause-quiet : goal.restrict-requires-clause-quiet
restrict-requires-clause-quiet c =
    let a = c.args in
    lower_quiet a.g a.h a.labels.now a.below.now a.room.now _ a.room.now c.requires.two_levels c.requires.h_in_bounds c.residual.ensures

pub returns : goal.returns
returns c = search lowering
