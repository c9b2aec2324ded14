-- `rounds::scalars::precondition` meets its contract: the cycle's promise on the room from z on. Assumes nothing.
use Rattle.rounds.proofs.Turns.{turns}
use Rattle.rounds.proofs.scalars.precondition.Goals as goal

pub cycle-requires : goal.cycle-requires
cycle-requires c = record {
  ready = search turns;
  ended = search turns;
}

pub returns : goal.returns
returns c = search turns
