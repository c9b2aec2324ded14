-- `answer_print::put_whole` meets its contract, by the sign. Assumes nothing.
use Rattle.answer_print.proofs.ShowLaws.{signs}
use Rattle.answer_print.proofs.put_whole.Goals as goal

pub put_line-requires : goal.put_line-requires
put_line-requires c = search signs

pub put_line-requires-else-p-lt0 : goal.put_line-requires-else-p-lt0
put_line-requires-else-p-lt0 c = search signs

pub returns-then-p-lt0 : goal.returns-then-p-lt0
returns-then-p-lt0 c = search signs

pub returns-else-p-lt0 : goal.returns-else-p-lt0
returns-else-p-lt0 c = search signs
