-- `rooms::float_need` meets its contract. Assumes nothing.
use Rattle.rooms.proofs.Clears.{needing}
use Rattle.rooms.proofs.float_need.Goals as goal

pub returns : goal.returns
returns c = search needing
