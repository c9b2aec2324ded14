-- `session_header::line::number_to` meets its contract: each return by the tests that led there. Assumes nothing.
use Rattle.session_header.proofs.LineLaws.{lines}
use Rattle.session_header.proofs.line.number_to.Goals as goal

pub returns-then-not-starts_with : goal.returns-then-not-starts_with
returns-then-not-starts_with c = search lines

pub returns-then-not-starts_with-2 : goal.returns-then-not-starts_with-2
returns-then-not-starts_with-2 c = search lines

pub is_number-requires : goal.is_number-requires
is_number-requires c = search lines

pub value_of-value-requires : goal.value_of-value-requires
value_of-value-requires c = search lines

pub returns-then-is_number : goal.returns-then-is_number
returns-then-is_number c = search lines

pub returns-else-is_number : goal.returns-else-is_number
returns-else-is_number c = search lines
