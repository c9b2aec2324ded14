-- `session_bytes::length::order_length` meets its contract, by the order. Assumes nothing.
use Rattle.session_bytes.proofs.LengthLaws.{lengths}
use Rattle.session_bytes.proofs.length.order_length.Goals as goal

pub returns-in-Big : goal.returns-in-Big
returns-in-Big c = search lengths

pub returns-in-Little : goal.returns-in-Little
returns-in-Little c = search lengths
