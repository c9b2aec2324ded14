-- `library_tests::fitted_walk` meets its contract. Assumes nothing.
use Rattle.library_tests.proofs.Laws.{calling}
use Rattle.library_tests.proofs.fitted_walk.Goals as goal

pub returns-in-Some : goal.returns-in-Some
returns-in-Some c = search calling

pub returns-in-None : goal.returns-in-None
returns-in-None c = search calling
