-- `bands::lists::is_smoothed` meets its contract: in the band, or air. Assumes nothing.
use Rattle.bands.proofs.Chosen.{smoothes}
use Rattle.bands.proofs.lists.is_smoothed.Goals as goal

pub returns-then-band : goal.returns-then-band
returns-then-band c = search smoothes

pub returns-else-band : goal.returns-else-band
returns-else-band c = search smoothes
