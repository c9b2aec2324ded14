-- `airway::main` meets its contract: the buffer and the rooms are as large as `run` asks. Assumes nothing.
use mathlib.Core.Path.{refl, sym}
use Rattle.method.specs.Program.{program_room}
use Rattle.prints.proofs.Fronts.{buffer_for_lem}
use Rattle.answer_session.proofs.FrontLaws.{rooms_for}
use Rattle.airway.proofs.main.Goals as goal

pub run-requires-clause-buffer_len : goal.run-requires-clause-buffer_len
unfolding program_room
run-requires-clause-buffer_len c = sym (buffer_for_lem 1000)

pub run-requires-clause-roomy : goal.run-requires-clause-roomy
unfolding program_room
run-requires-clause-roomy c = rooms_for 1000 refl
