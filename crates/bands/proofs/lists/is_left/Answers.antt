-- `bands::lists::is_left` meets its contract. Assumes nothing.
use Rattle.bands.proofs.Chosen.{lefts}
use Rattle.bands.proofs.lists.is_left.Goals as goal

pub returns-then-label-ne0 : goal.returns-then-label-ne0
returns-then-label-ne0 c = search lefts

pub returns-then-is_in_band : goal.returns-then-is_in_band
returns-then-is_in_band c = search lefts

pub returns-then-band : goal.returns-then-band
returns-then-band c = search lefts

pub returns : goal.returns
returns c = search lefts
