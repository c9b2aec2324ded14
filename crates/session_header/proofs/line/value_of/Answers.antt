-- `session_header::line::value_of` meets its contract: i digits are read, and make v. Assumes nothing.
use Rattle.session_header.proofs.LineLaws.{numbers}
use Rattle.session_header.proofs.line.value_of.Goals as goal

pub bounds-bytes-i : goal.bounds-bytes-i
bounds-bytes-i c = search numbers

pub with_digit-v-requires : goal.with_digit-v-requires
with_digit-v-requires c = search numbers

pub loop-i-preserved : goal.loop-i-preserved
loop-i-preserved c = search numbers

pub returns : goal.returns
returns c = search numbers
