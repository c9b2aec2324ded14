-- `bands::band::is_other` meets its contract. Assumes nothing.
use Rattle.bands.proofs.Hits.{hits}
use Rattle.bands.proofs.band.is_other.Goals as goal

pub returns : goal.returns
returns c = search hits
