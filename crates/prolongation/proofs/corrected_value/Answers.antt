-- `prolongation::corrected_value` meets its contract, by the label. Assumes nothing.
use Rattle.transfer.proofs.Laws.{zero_bits, over_16}
use Rattle.transfer.proofs.Ends.{plus_air, plus_other}
use Rattle.prolongation.proofs.corrected_value.Goals as goal

pub returns-then-label-eq0 : goal.returns-then-label-eq0
returns-then-label-eq0 c = search (plus_air, over_16)

pub returns-else-label-eq0 : goal.returns-else-label-eq0
returns-else-label-eq0 c = search (plus_other, zero_bits)
