-- `session_header::line::number_line` meets its contract: a number up to a line feed. Assumes nothing.
use Rattle.session_header.proofs.LineLaws.{lines}
use Rattle.session_header.proofs.line.number_line.Goals as goal

pub returns : goal.returns
returns c = search lines
