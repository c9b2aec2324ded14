-- `session_bytes::put_order` meets its contract, by the order. Assumes nothing.
use Rattle.session_bytes.proofs.PartLaws.{ordered}
use Rattle.session_bytes.proofs.put_order.Goals as goal

pub put-requires : goal.put-requires
put-requires c = search ordered

pub put-requires-in-Little : goal.put-requires-in-Little
put-requires-in-Little c = search ordered

pub returns-in-Big : goal.returns-in-Big
returns-in-Big c = search ordered

pub returns-in-Little : goal.returns-in-Little
returns-in-Little c = search ordered
