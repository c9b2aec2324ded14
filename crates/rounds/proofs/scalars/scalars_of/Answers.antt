use mathlib.Core.Path.{◌∙◌}
use Rattle.rounds.proofs.Turns.{turns, same_planned, scaled_is}
use Rattle.rounds.proofs.Calm.{calm, sigma_p}
use Rattle.rounds.proofs.scalars.scalars_of.Goals as goal

pub aim-requires : goal.aim-requires
aim-requires c = record {
  planned = search turns;
  quiet = search calm;
  quiet_2 = search calm;
}

pub sigma_of-sigma-requires : goal.sigma_of-sigma-requires
sigma_of-sigma-requires c = record {
  planned = same_planned c.requires.planned _ (c.aim.auto.room ∙ c.rho_of-rho.auto.room);
  quiet = sigma_p c.aim.ensures;
}

pub returns : goal.returns
returns c =
    let a = c.args in
    scaled_is a.plan a.bytes.now a.words.now a.g a.labels.now a.done a.old _ _ _ a.room.now _ _ _ c.requires.planned c.rho_of-rho.ensures c.beta_of-beta.ensures c.aim.ensures c.sigma_of-sigma.ensures
