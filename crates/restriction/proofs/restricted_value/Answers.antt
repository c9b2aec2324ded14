-- `restriction::restricted_value` meets its contract, by the label. Assumes nothing.
use Rattle.transfer.proofs.Laws.{zero_bits, over_512}
use Rattle.transfer.proofs.Ends.{over_air, over_other}
use Rattle.restriction.proofs.restricted_value.Goals as goal

pub returns-then-label-eq0 : goal.returns-then-label-eq0
returns-then-label-eq0 c = search (over_air, over_512)

pub returns-else-label-eq0 : goal.returns-else-label-eq0
returns-else-label-eq0 c = search (over_other, zero_bits)
