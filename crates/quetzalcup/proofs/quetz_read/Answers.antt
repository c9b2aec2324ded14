-- `quetzalcup::quetz_read` meets its contract. Assumes nothing.
use Rattle.quetzalcup.proofs.Laws.{handing}
use Rattle.quetzalcup.proofs.quetz_read.Goals as goal

pub read-read-requires : goal.read-read-requires
read-read-requires c = search handing

pub number_of-requires : goal.number_of-requires
number_of-requires c = search handing

pub shape_of-values : goal.shape_of-values
shape_of-values c = search handing

pub returns : goal.returns
returns c = search handing
