-- `rounds::scalars::aim` meets its contract: the kernel promises it for every cast, and so for the one whose labels are
-- at hand. Assumes nothing.
use borrow.Author.Rules.{rules}
use Rattle.rounds.proofs.Turns.{air_listed}
use Rattle.rounds.proofs.Calm.{air_in_lem, five_in}
use Rattle.rounds.proofs.scalars.aim.Goals as goal

pub aim-requires : goal.aim-requires
aim-requires c = record {
  in_cells = search (rules, air_in_lem);
  n_in_bounds = search (rules, five_in);
}

pub returns : goal.returns
returns c =
    let a = c.args in
    c.aim.ensures a.g a.labels.now (air_listed a.room.now c.requires.planned c.level_air-air.ensures) c.requires.quiet c.requires.quiet_2
