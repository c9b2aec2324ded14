-- `old_write::units::expressible` meets its contract: by the size of the value. Assumes nothing.
use Rattle.old_write.proofs.WriteLaws.{expressing}
use Rattle.old_write.proofs.units.expressible.Goals as goal

pub returns-then-size-unit-ne0 : goal.returns-then-size-unit-ne0
returns-then-size-unit-ne0 c = search expressing

pub returns-then-v-lt0 : goal.returns-then-v-lt0
returns-then-v-lt0 c = search expressing

pub returns-else-v-lt0 : goal.returns-else-v-lt0
returns-else-v-lt0 c = search expressing
