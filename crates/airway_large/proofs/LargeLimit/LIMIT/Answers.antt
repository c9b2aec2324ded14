-- The limit of `airway_large` is as many cells as the greatest cast has. Assumes nothing.
use mathlib.Core.Path.{sym}
use Rattle.prints.proofs.Fronts.{large_room_lem}
use Rattle.airway_large.proofs.LargeLimit.LIMIT.Goals as goal

pub returns : goal.returns
returns c = sym large_room_lem
