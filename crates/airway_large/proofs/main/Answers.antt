-- `airway_large::main` meets its contract: the buffer and the rooms are as large as `run` asks. Assumes nothing.
use mathlib.Core.Path.{sym, ap, ◌∙◌}
use Rattle.prints.specs.Prints.{buffer_for}
use Rattle.prints.proofs.Fronts.{buffer_for_lem, large_room_lem}
use Rattle.answer_session.proofs.FrontLaws.{rooms_for}
use Rattle.airway_large.proofs.main.Goals as goal

pub run-requires-clause-buffer_len : goal.run-requires-clause-buffer_len
run-requires-clause-buffer_len c = sym (buffer_for_lem 32768) ∙ ap buffer_for (sym large_room_lem)

pub run-requires-clause-roomy : goal.run-requires-clause-roomy
run-requires-clause-roomy c = rooms_for 32768 (sym large_room_lem)
