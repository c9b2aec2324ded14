-- `old_read::values::short` meets its contract. Assumes nothing.
use Rattle.old_read.proofs.ValueLaws.{values}
use Rattle.old_read.proofs.values.short.Goals as goal

pub returns : goal.returns
returns c = search values
