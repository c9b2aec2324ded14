-- A value is put as two bytes, as its units. Assumes nothing.
use Rattle.old_put.proofs.UnitLaws.{values}
use Rattle.old_put.proofs.values.InUnitsFormI32.put.Goals as goal

pub returns-clause-puts : goal.returns-clause-puts
returns-clause-puts c = search values
