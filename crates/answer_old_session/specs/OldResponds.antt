-- What is known of an old session that was read, and what a program that takes old sessions promises.
use Rattle.std.specs.Prelude.{ℕ, ◌≤◌, ◌≡◌, List, ℤ, length, take}
use Rattle.method.specs.declared.Sides.{Sides}
use Rattle.method.specs.declared.Settings.{Settings}
use Rattle.method.specs.Cast.{cells}
use Rattle.method.specs.Answers.{passed, verdict}
use Rattle.method.specs.OldForm.{old_header, old_values_in, old_reader_checks}
use Rattle.method.specs.OldProgram.{old_taken, old_printed}
use Rattle.prints.specs.Prints.{large_room, old_buffer}
use Rattle.answer_print.specs.Shows.{print_room, PutShort}

-- it passes all checks, with room for as many cells as there are values, and what it names was handed back
pub record OldIsRead (t : Settings) (input : List ℕ) (s : Sides) (vs : List ℤ) : Type 0 where
  pub passes : verdict old_reader_checks (old_taken (length vs) t input) ≡ passed
  pub sides : s ≡ (old_header input).sides
  pub values : take (cells s) vs ≡ old_values_in (old_header input)

-- THE PROMISE of a program that takes old sessions: of every one whose front was handed in (all of it, where it is no
-- longer), the print stands at the front of the output, all else of the output is as it was, and the print's length
-- comes back
pub record OldProgramOf (t : Settings) (front old new : List ℕ) (r : ℕ) : Type 0 where
  pub prints : (bs : List ℕ) → take old_buffer bs ≡ front → PutShort (print_room large_room) (old_printed large_room t bs) old 0 new r
  pub within : r ≤ length new
