-- `airway_renew::main` meets its contract: the buffer and the output are as large as `run` asks. Assumes nothing.
use mathlib.Core.Path.{sym}
use native.Mathlib.Omega.{arith}
use Rattle.prints.specs.Prints.{large_room}
use Rattle.prints.proofs.Fronts.{buffer_for_lem, large_room_lem}
use Rattle.prints.proofs.OldFronts.{old_buffer_lem}
use Rattle.airway_renew.proofs.main.Goals as goal

pub run-requires-clause-input_len : goal.run-requires-clause-input_len
run-requires-clause-input_len c = (omega (arith, old_buffer_lem, large_room_lem), sym large_room_lem)

pub run-requires-clause-session_len : goal.run-requires-clause-session_len
run-requires-clause-session_len c = omega (arith, buffer_for_lem large_room, large_room_lem)
