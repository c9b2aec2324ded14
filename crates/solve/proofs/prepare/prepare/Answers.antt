use Rattle.solve.proofs.Preparing.{preparing}
use Rattle.solve.proofs.prepare.prepare.Goals as goal

pub all_labels-requires : goal.all_labels-requires
all_labels-requires c = search preparing

pub all_lists-lists-requires : goal.all_lists-lists-requires
all_lists-lists-requires c = search preparing

pub returns : goal.returns
returns c = search preparing
