-- `session_header::line::value_of` meets its contract: i digits are read, and make v. Assumes nothing.
use Rattle.session_header.proofs.LineLaws.{Valued}
use Rattle.session_header.proofs.line.value_of.Given as goal

abbrev pub invariant-loop-i : goal.invariant-loop-i
invariant-loop-i l = Valued l.bytes l.i l.v
