-- `session_header::line::order_line` meets its contract: each return by the tests that led there. Assumes nothing.
use Rattle.session_header.proofs.LineLaws.{lines}
use Rattle.session_header.proofs.line.order_line.Goals as goal

pub returns-then-starts_with : goal.returns-then-starts_with
returns-then-starts_with c = search lines

pub returns-then-starts_with-2 : goal.returns-then-starts_with-2
returns-then-starts_with-2 c = search lines

pub returns : goal.returns
returns c = search lines
