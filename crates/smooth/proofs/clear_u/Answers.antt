-- `smooth::clear_u` meets its contract, by the contracts of the two that it calls. Assumes nothing.
use Rattle.smooth.proofs.Fields.{fills}
use Rattle.smooth.proofs.clear_u.Goals as goal

pub returns : goal.returns
returns c = search fills
