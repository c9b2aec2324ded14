-- `library_tests::quetz_test_walk` meets its contract. Assumes nothing.
use Rattle.library_tests.proofs.Laws.{calling}
use Rattle.library_tests.proofs.quetz_test_walk.Goals as goal

pub fitted_walk-requires : goal.fitted_walk-requires
fitted_walk-requires c = search calling
