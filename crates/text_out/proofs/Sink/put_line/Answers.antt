-- `text_out::Sink::put_line` meets its contract. Assumes nothing.
use Rattle.text_out.proofs.PutLaws.{lines}
use Rattle.text_out.proofs.Sink.put_line.Goals as goal

pub put_number-requires : goal.put_number-requires
put_number-requires c = search lines

pub returns : goal.returns
returns c = search lines
