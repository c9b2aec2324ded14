-- `rooms::byte_need` meets its contract. Assumes nothing.
use Rattle.rooms.proofs.Clears.{needing}
use Rattle.rooms.proofs.byte_need.Goals as goal

pub returns : goal.returns
returns c = search needing
