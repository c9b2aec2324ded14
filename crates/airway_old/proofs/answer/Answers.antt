-- `airway_old::answer` meets its contract: what `respond_old` puts, with the room of the greatest casts. Assumes
-- nothing.
use Rattle.answer_old_session.proofs.OldFrontLaws.{old_front_put}
use Rattle.airway_old.proofs.answer.Goals as goal

pub returns : goal.returns
returns c = old_front_put _ _ _ c.respond_old.ensures c.requires.values_len c.requires.roomy.output_long
