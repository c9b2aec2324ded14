-- Document 01's program, from the promise of a program with room for as many cells. Assumes nothing.
use mathlib.Core.List.{List}
use Prim.Native.Nat.{ℕ}
use Rattle.method.specs.Program.{program_room, program}
use Rattle.prints.specs.Prints.{input_room}
use Rattle.answer_session.specs.Responds.{FrontOf}
use Rattle.airway.specs.Programs.{ProgramOf}

pub program_of : {front old new : List ℕ} {r : ℕ} → FrontOf program_room front old new r → ProgramOf front old new r
unfolding program input_room
program_of p = record { prints = p.prints; within = p.within }
