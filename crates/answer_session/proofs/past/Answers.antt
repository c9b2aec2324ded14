-- `answer_session::past` meets its contract: sides in range, then their cells. Assumes nothing.
use Rattle.answer_session.proofs.RespondLaws.{sides}
use Rattle.answer_session.proofs.past.Goals as goal

pub cell_count-requires : goal.cell_count-requires
cell_count-requires c = search sides
