-- `old_read::values::bad_value_at` meets its contract. Assumes nothing.
use Rattle.old_read.proofs.ValueLaws.{values}
use Rattle.old_read.proofs.values.bad_value_at.Goals as goal

pub returns : goal.returns
returns c = search values
