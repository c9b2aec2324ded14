-- `worst::is_worst` meets its contract: by the label and by the size. Assumes nothing.
use mathlib.Core.Path.{◌≡◌}
use lib.IntN.{nat_abs}
use Rattle.worst.proofs.Laws.{walking}
use Rattle.worst.proofs.is_worst.Goals as goal

pub returns-then-label_at-eq0 : goal.returns-then-label_at-eq0
returns-then-label_at-eq0 c = let n : c.unsigned_abs.result ≡ nat_abs c.residual_at.result = search walking in search walking

pub returns : goal.returns
returns c = search walking
