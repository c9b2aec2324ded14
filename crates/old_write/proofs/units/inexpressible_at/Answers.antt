-- `old_write::units::inexpressible_at` meets its contract. Assumes nothing.
use Rattle.old_write.proofs.WriteLaws.{searching}
use Rattle.old_write.proofs.units.inexpressible_at.Goals as goal

pub returns : goal.returns
returns c = search searching
