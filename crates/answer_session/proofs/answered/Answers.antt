-- `answer_session::answered` meets its contract: refused by the reader, or solved. Assumes nothing.
use Rattle.answer_session.proofs.RespondLaws.{answers}
use Rattle.answer_session.proofs.answered.Goals as goal

pub returns-then-answer-ne0 : goal.returns-then-answer-ne0
returns-then-answer-ne0 c = search answers

pub solve_read-requires-clause-read : goal.solve_read-requires-clause-read
solve_read-requires-clause-read c = search answers

pub solve_read-requires-clause-labels_at : goal.solve_read-requires-clause-labels_at
solve_read-requires-clause-labels_at c = search answers
