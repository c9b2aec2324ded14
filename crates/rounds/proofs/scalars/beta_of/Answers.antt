use Rattle.rounds.proofs.Steps.{beta_none, beta_some}
use Rattle.rounds.proofs.scalars.beta_of.Goals as goal

pub returns-then-done-eq0 : goal.returns-then-done-eq0
unfolding lib.Ieee.of_bits
returns-then-done-eq0 c = search (beta_none)

pub returns-else-done-eq0 : goal.returns-else-done-eq0
unfolding lib.Ieee.of_bits
returns-else-done-eq0 c = search (beta_some)
