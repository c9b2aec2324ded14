-- `answer_print::put_answer` meets its contract: three parts. Assumes nothing.
use Rattle.answer_print.proofs.ShowLaws.{answers}
use Rattle.answer_print.proofs.put_answer.Goals as goal

pub put_three-requires : goal.put_three-requires
put_three-requires c = search answers

pub put_worst-requires : goal.put_worst-requires
put_worst-requires c = search answers

pub put_cast-requires : goal.put_cast-requires
put_cast-requires c = search answers

pub returns : goal.returns
returns c = search answers
