-- `old_read::read_old` meets its contract. Assumes nothing.
use Rattle.old_read.proofs.ReadLaws.{readers}
use Rattle.old_read.proofs.read_old.Goals as goal

pub taken_of-taken-requires : goal.taken_of-taken-requires
taken_of-taken-requires c = search readers

pub rest-body-requires : goal.rest-body-requires
rest-body-requires c = search readers

pub store_values-requires : goal.store_values-requires
store_values-requires c = search readers

pub returns : goal.returns
returns c = search readers
