-- `answer_session::too_many` meets its contract: by the header. Assumes nothing.
use Rattle.answer_session.proofs.RespondLaws.{heads}
use Rattle.answer_session.proofs.too_many.Goals as goal

pub returns-in-Err : goal.returns-in-Err
returns-in-Err c = search heads

pub returns-in-Ok : goal.returns-in-Ok
returns-in-Ok c = search heads
