-- `text_out::put_bytes` meets its contract: i bytes are put. Assumes nothing.
use Rattle.text_out.proofs.PutLaws.{copies}
use Rattle.text_out.proofs.put_bytes.Goals as goal

pub loop-i-init : goal.loop-i-init
loop-i-init c = search copies

pub overflow_add-output : goal.overflow_add-output
overflow_add-output c = search copies

pub bounds-output-at : goal.bounds-output-at
bounds-output-at c = search copies

pub loop-i-preserved : goal.loop-i-preserved
loop-i-preserved c = search copies

pub returns : goal.returns
returns c = search copies
