-- Room for so many cells, and what is known of a session that was read.
use Rattle.std.specs.Prelude.{ℕ, ◌+◌, ◌≤◌, ◌≡◌, Bool, false, ◌&&◌, List, [], ℤ, ltb, length, take, drop, Result, Ok, Err}
use Rattle.method.specs.declared.Sides.{Sides}
use Rattle.method.specs.declared.Settings.{Settings}
use Rattle.method.specs.Cast.{cells, sides_fit}
use Rattle.method.specs.Form.{header, labels_in, values_in}
use Rattle.method.specs.Answers.{passed, verdict}
use Rattle.method.specs.Rooms.{byte_need, float_need, word_need}
use Rattle.method.specs.Program.{program_checks, printed}
use Rattle.session_header.specs.declared.Header.{Header}
use Rattle.answer_session.specs.declared.Lent.{Lent}
use Rattle.answer_print.specs.Shows.{print_room, PutShort}
use Rattle.prints.specs.Prints.{crowded, buffer_for}

-- by the lengths of what is lent: a value and a pressure a cell, the solver's rooms, and the print
pub record Roomy (limit values pressures bytes floats words output : ℕ) : Type 0 where
  pub values_long : limit ≤ values
  pub pressures_long : limit ≤ pressures
  pub bytes_long : byte_need limit ≤ bytes
  pub floats_long : float_need limit ≤ floats
  pub words_long : word_need limit ≤ words
  pub output_long : print_room limit ≤ output

-- the same, of what the solver is lent
abbrev pub RoomFor : ℕ → ℕ → Lent → ℕ → Type 0
RoomFor limit values lent output = Roomy limit values (length lent.pressures.now) (length lent.bytes.now) (length lent.floats.now) (length lent.words.now) output

-- sides in range but more cells than there is room for, by what a header was read to be
unfoldable pub crowded_by : ℕ → Result Header ℕ → Bool
crowded_by limit (Err k) = false
crowded_by limit (Ok h) = sides_fit h.sides && ltb limit (cells h.sides)

-- where the labels of a session that was read stand in its bytes
pub record LabelsAt (input : List ℕ) (s : Sides) (start : ℕ) : Type 0 where
  pub within : start + cells s ≤ length input
  pub are : take (cells s) (drop start input) ≡ labels_in (header input)

-- it passes all checks, and what it names was handed back
pub record IsRead (limit : ℕ) (input : List ℕ) (s : Sides) (t : Settings) (vs : List ℤ) : Type 0 where
  pub free : crowded limit input ≡ false
  pub passes : verdict (program_checks limit) (record { bytes = input; values = [] }) ≡ passed
  pub sides : s ≡ (header input).sides
  pub settings : t ≡ (header input).settings
  pub values : take (cells s) vs ≡ values_in (header input)

-- THE PROMISE of a program with room for so many cells: of every input whose front was handed in (all of it, where it
-- is no longer), the print stands at the front of the output, all else of the output is as it was, and the print's
-- length comes back
pub record FrontOf (room : ℕ) (front old new : List ℕ) (r : ℕ) : Type 0 where
  pub prints : (bs : List ℕ) → take (buffer_for room) bs ≡ front → PutShort (print_room room) (printed room bs) old 0 new r
  pub within : r ≤ length new
