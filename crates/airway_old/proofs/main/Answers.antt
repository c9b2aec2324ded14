-- `airway_old::main` meets its contract: the buffer and the rooms are as large as `run` asks. Assumes nothing.
use mathlib.Core.Path.{sym}
use native.Mathlib.Omega.{arith}
use Rattle.prints.proofs.Fronts.{large_room_lem}
use Rattle.prints.proofs.OldFronts.{old_buffer_lem}
use Rattle.answer_session.proofs.FrontLaws.{rooms_for}
use Rattle.airway_old.proofs.main.Goals as goal

pub run-requires-clause-input_len : goal.run-requires-clause-input_len
run-requires-clause-input_len c = (omega (arith, old_buffer_lem, large_room_lem), sym large_room_lem)

pub run-requires-clause-roomy : goal.run-requires-clause-roomy
run-requires-clause-roomy c = rooms_for 32768 (sym large_room_lem)
