-- What the program promises of the bytes that it was handed.
use Rattle.std.specs.Prelude.{ℕ, ◌≤◌, ◌≡◌, List, length, take}
use Rattle.method.specs.Program.{program_room, program}
use Rattle.prints.specs.Prints.{input_room}
use Rattle.answer_print.specs.Shows.{print_room, PutShort}

-- THE PROMISE of the program: of every input whose front was handed in (all of it, where it is no longer), the print
-- stands at the front of the output, all else of the output is as it was, and the print's length comes back
pub record ProgramOf (front old new : List ℕ) (r : ℕ) : Type 0 where
  pub prints : (bs : List ℕ) → take input_room bs ≡ front → PutShort (print_room program_room) (program bs) old 0 new r
  pub within : r ≤ length new
