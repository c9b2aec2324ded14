-- The limit of `airway` is `method`'s. Assumes nothing.
use mathlib.Core.Path.{refl}
use Rattle.method.specs.Program.{program_room}
use Rattle.airway.proofs.ProgramLimit.LIMIT.Goals as goal

pub returns : goal.returns
unfolding program_room
returns c = refl
