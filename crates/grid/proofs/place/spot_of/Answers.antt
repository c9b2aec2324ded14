use Rattle.grid.proofs.Laws.{spotted}
use Rattle.grid.proofs.place.spot_of.Goals as goal

pub returns : goal.returns
returns c = spotted _ _ c.requires.c_bound
