-- `session_header::order_of` meets its contract, by the test. Assumes nothing.
use Rattle.session_header.proofs.HeaderLaws.{headers}
use Rattle.session_header.proofs.order_of.Goals as goal

pub returns-then-v-eq0 : goal.returns-then-v-eq0
returns-then-v-eq0 c = search headers

pub returns-else-v-eq0 : goal.returns-else-v-eq0
returns-else-v-eq0 c = search headers
