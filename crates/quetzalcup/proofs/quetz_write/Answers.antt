-- `quetzalcup::quetz_write` meets its contract. Assumes nothing.
use Rattle.quetzalcup.proofs.Laws.{handing}
use Rattle.quetzalcup.proofs.quetz_write.Goals as goal

pub unordered_answer-answer-requires : goal.unordered_answer-answer-requires
unordered_answer-answer-requires c = search handing

pub returns-then-order-gt1 : goal.returns-then-order-gt1
returns-then-order-gt1 c = search handing

pub order_of-requires : goal.order_of-requires
order_of-requires c = search handing

pub write-requires : goal.write-requires
write-requires c = search handing

pub shape_of-output : goal.shape_of-output
shape_of-output c = search handing

pub returns : goal.returns
returns c = search handing
