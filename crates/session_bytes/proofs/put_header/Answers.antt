-- `session_bytes::put_header` meets its contract: three parts. Assumes nothing.
use Rattle.session_bytes.proofs.PartLaws.{headed}
use Rattle.session_bytes.proofs.put_header.Goals as goal

pub put_three-requires : goal.put_three-requires
put_three-requires c = search headed

pub put_order-requires : goal.put_order-requires
put_order-requires c = search headed

pub put_three-requires-2 : goal.put_three-requires-2
put_three-requires-2 c = search headed

pub returns : goal.returns
returns c = search headed
