-- `old_header::unit_fits` meets its contract. Assumes nothing.
use Rattle.old_header.proofs.OldHeaderLaws.{units}
use Rattle.old_header.proofs.unit_fits.Goals as goal

pub returns-then-unit-ge1 : goal.returns-then-unit-ge1
returns-then-unit-ge1 c = search units

pub returns-else-unit-ge1 : goal.returns-else-unit-ge1
returns-else-unit-ge1 c = search units
