-- `cycle::residual` meets its contract: the kernel promises it for every cast, and so for the one whose labels are at
-- hand. Assumes nothing.
use Rattle.smooth.proofs.EntryLaws.{lattices}
use Rattle.cycle.proofs.Laws.{air_reads}
use Rattle.cycle.proofs.residual.Goals as goal

pub residual-requires-clause-all_read : goal.residual-requires-clause-all_read
residual-requires-clause-all_read c = search (lattices, air_reads)
