-- `levels::labels::copy` meets its contract: the first i labels are copied. Assumes nothing.
use Rattle.levels.proofs.Labelled.{Copied}
use Rattle.levels.proofs.labels.copy.Given as goal

abbrev pub invariant-loop-i : goal.invariant-loop-i
invariant-loop-i l = Copied l.initial.bytes l.labels l.i l.bytes
