-- `old_read::values::product` meets its contract. Assumes nothing.
use Rattle.old_read.proofs.ValueLaws.{values}
use Rattle.old_read.proofs.values.product.Goals as goal

pub returns : goal.returns
returns c = search values
