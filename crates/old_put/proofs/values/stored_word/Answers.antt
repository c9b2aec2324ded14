-- `old_put::values::stored_word` meets its contract, by the sign. Assumes nothing.
use Rattle.old_put.proofs.UnitLaws.{words}
use Rattle.old_put.proofs.values.stored_word.Goals as goal

pub returns-then-v-lt0 : goal.returns-then-v-lt0
returns-then-v-lt0 c = rw c.saturating_sub.ensures (search words)

pub returns-else-v-lt0 : goal.returns-else-v-lt0
returns-else-v-lt0 c = search words
