-- `solve::run` meets its contract: the rounds, and the pressures and the worst cell where they are accepted. Assumes
-- nothing.
use borrow.Author.Rules.{rules}
use Rattle.solve.proofs.Working.{asked_x, labelled_run, tolerance_run, sought, ran_accepted, ran_unfinished}
use Rattle.solve.proofs.run.Goals as goal

pub worst_of-at-requires : goal.worst_of-at-requires
worst_of-at-requires c = sought _ _ _ _ _ _ c.run.ensures _ c.in-Ok.is (labelled_run c.requires) (tolerance_run c.requires) (asked_x c.requires _ (search rules))

pub returns-in-Ok : goal.returns-in-Ok
returns-in-Ok c =
    ran_accepted _ _ _ _ _ _ c.run.ensures _ c.in-Ok.is (labelled_run c.requires) _ _ _ _ _ c.requires.of_cast
    c.write_ticks.ensures c.worst_of-at.ensures c.accepted.ensures

pub returns-in-Err : goal.returns-in-Err
returns-in-Err c = ran_unfinished _ _ _ _ _ _ c.run.ensures _ _ _ _ _ _ c.in-Err.is c.requires.of_cast c.number.ensures c.rounds.ensures c.unfinished.ensures
