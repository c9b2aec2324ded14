-- `session_bytes::length::header_length` meets its contract. Assumes nothing.
use Rattle.session_bytes.proofs.LengthLaws.{lengths}
use Rattle.session_bytes.proofs.length.header_length.Goals as goal

pub returns : goal.returns
returns c = search lengths
