-- `acceptance::worst_at` meets its contract: by the label and by the larger. Assumes nothing.
use mathlib.Core.Path.{◌≡◌}
use lib.IntN.{nat_abs}
use Rattle.acceptance.proofs.Laws.{gathers}
use Rattle.acceptance.proofs.worst_at.Goals as goal

pub returns-then-w-a : goal.returns-then-w-a
returns-then-w-a c = let n : c.unsigned_abs-a.result ≡ nat_abs c.residual_at-r.result = search gathers in search gathers

pub returns-else-w-a : goal.returns-else-w-a
returns-else-w-a c = let n : c.unsigned_abs-a.result ≡ nat_abs c.residual_at-r.result = search gathers in search gathers

pub returns-else-label_at-eq0 : goal.returns-else-label_at-eq0
returns-else-label_at-eq0 c = search gathers
