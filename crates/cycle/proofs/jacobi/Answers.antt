-- `cycle::jacobi` meets its contract: the kernel promises it for every cast, and so for the one whose labels are at
-- hand. Assumes nothing.
use Rattle.smooth.proofs.EntryLaws.{lattices}
use Rattle.cycle.proofs.Laws.{air_reads}
use Rattle.cycle.proofs.jacobi.Goals as goal

pub jacobi-requires-clause-all_read : goal.jacobi-requires-clause-all_read
jacobi-requires-clause-all_read c = search (lattices, air_reads)
