-- `library_tests::quetz_test_cycle` meets its contract. Assumes nothing.
use Rattle.library_tests.proofs.Laws.{calling}
use Rattle.library_tests.proofs.quetz_test_cycle.Goals as goal

pub fitted_cycle-requires : goal.fitted_cycle-requires
fitted_cycle-requires c = search calling
