-- `session_header::line::with_digit` meets its contract. Assumes nothing.
use Rattle.session_header.proofs.LineLaws.{digit_range}
use Rattle.session_header.proofs.line.with_digit.Goals as goal

pub overflow_sub-b : goal.overflow_sub-b
overflow_sub-b c = (digit_range c.args.b c.requires.1).0
