-- `answer_session::solved` meets its contract: solved, then shown. Assumes nothing.
use Rattle.answer_session.proofs.RespondLaws.{solvings}
use Rattle.answer_session.proofs.solved.Goals as goal

pub returns : goal.returns
returns c = search solvings
