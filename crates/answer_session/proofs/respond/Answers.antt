-- `answer_session::respond` meets its contract: too many cells, or answered. Assumes nothing.
use Rattle.answer_session.proofs.RespondLaws.{responses}
use Rattle.answer_session.proofs.respond.Goals as goal

pub returns-then-too_many : goal.returns-then-too_many
returns-then-too_many c = search responses

pub answered-requires-clause-input_value : goal.answered-requires-clause-input_value
answered-requires-clause-input_value c = search responses
