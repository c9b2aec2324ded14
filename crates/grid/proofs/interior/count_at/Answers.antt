use Rattle.grid.proofs.Counts.{counts}
use Rattle.grid.proofs.interior.count_at.Goals as goal

pub returns-then-air : goal.returns-then-air
returns-then-air c = search counts

pub returns-else-air : goal.returns-else-air
returns-else-air c = search counts
