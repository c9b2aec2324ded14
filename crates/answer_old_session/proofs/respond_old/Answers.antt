-- `answer_old_session::respond_old` meets its contract: refused by the reader, or solved. Assumes nothing.
use Rattle.answer_old_session.proofs.OldRespondLaws.{answers}
use Rattle.answer_old_session.proofs.respond_old.Goals as goal

pub returns-then-answer-ne0 : goal.returns-then-answer-ne0
returns-then-answer-ne0 c = search answers

pub solve_old-requires-clause-old_is_read : goal.solve_old-requires-clause-old_is_read
solve_old-requires-clause-old_is_read c = search answers
