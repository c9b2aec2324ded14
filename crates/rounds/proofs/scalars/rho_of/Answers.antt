use Rattle.rounds.proofs.Turns.{turns}
use Rattle.rounds.proofs.Calm.{calm}
use Rattle.rounds.proofs.scalars.rho_of.Goals as goal

pub inner-requires : goal.inner-requires
inner-requires c = record {
  held = search turns;
  quiet = search calm;
  quiet_2 = search calm;
}
