-- `session_header::line::is_number` meets its contract, test by test. Assumes nothing.
use Rattle.session_header.proofs.LineLaws.{forms}
use Rattle.session_header.proofs.line.is_number.Goals as goal

pub returns-then-n-lt1 : goal.returns-then-n-lt1
returns-then-n-lt1 c = search forms

pub returns-then-n-gt7 : goal.returns-then-n-gt7
returns-then-n-gt7 c = search forms

pub returns-then-n-eq1 : goal.returns-then-n-eq1
returns-then-n-eq1 c = search forms

pub bounds-bytes-0 : goal.bounds-bytes-0
bounds-bytes-0 c = search forms

pub returns : goal.returns
returns c = search forms
