-- `text_out::Sink::put_number` meets its contract: three parts. Assumes nothing.
use Rattle.text_out.proofs.PutLaws.{parts}
use Rattle.text_out.proofs.Sink.put_number.Goals as goal

pub put_decimal-requires : goal.put_decimal-requires
put_decimal-requires c = search parts

pub put-requires-2 : goal.put-requires-2
put-requires-2 c = search parts

pub returns : goal.returns
returns c = search parts
