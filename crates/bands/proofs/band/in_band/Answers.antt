-- `bands::band::in_band` meets its contract, by what the two searches find. Assumes nothing.
use Rattle.bands.proofs.Hits.{in_bands}
use Rattle.bands.proofs.band.in_band.Goals as goal

pub returns-then-label_at-ne0 : goal.returns-then-label_at-ne0
returns-then-label_at-ne0 c = search in_bands

pub returns-then-n-labels : goal.returns-then-n-labels
returns-then-n-labels c = search in_bands

pub returns : goal.returns
returns c = search in_bands
