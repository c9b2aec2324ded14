-- What the code's answers about the two lines mean in method's words.
use Rattle.std.specs.Prelude.{◌≡◌, List, [], ◌∷◌, ℕ, ◌≤◌, length, drop, Option, None, Some, Result, Ok, Err}
use Rattle.laws.specs.Text.{text}
use Rattle.method.specs.declared.Sides.{Sides}
use Rattle.method.specs.Form.{Line, Lines, wrong, more, read_lines}
use Rattle.method.specs.OldForm.{number_to, old_parts, old_header_of, old_header, old_bad_line}
use Rattle.method.specs.OldForm as form
use Rattle.old_header.specs.declared.Size.{Size}
use Rattle.old_header.specs.declared.OldHeader.{OldHeader}

-- THE PROMISE of `read_old_header`
abbrev pub old_named_by : List ℕ → OldHeader → form.OldHeader
old_named_by bytes h = record { sides = h.sides; unit = h.unit; body = drop h.start bytes }

unfoldable pub old_header_in : List ℕ → Result OldHeader ℕ → form.OldHeader
old_header_in bytes (Err k) = old_header_of (wrong k)
old_header_in bytes (Ok h) = old_named_by bytes h

unfoldable pub old_wrong_in : Result OldHeader ℕ → Option ℕ
old_wrong_in (Err k) = Some k
old_wrong_in (Ok h) = None

unfoldable pub old_start_in : Result OldHeader ℕ → ℕ
old_start_in (Err k) = 0
old_start_in (Ok h) = h.start

pub record OldHeaderOf (bytes : List ℕ) (r : Result OldHeader ℕ) : Type 0 where
  pub line : old_bad_line bytes ≡ old_wrong_in r
  pub is : old_header bytes ≡ old_header_in bytes r
  pub within : old_start_in r ≤ length bytes

-- ---- inside: the line of the size
unfoldable pub unit_part : List ℕ → Line
unit_part bs = number_to (text "\n") (text "unit=") bs

-- the numbers of all four parts, where those of the size are known
unfoldable pub with_size : Sides → Lines → Lines
with_size s ls = more s.nx (more s.ny (more s.nz ls))

pub record NoSize (bytes : List ℕ) : Type 0 where
  pub line : old_bad_line bytes ≡ Some 1
  pub is : old_header bytes ≡ old_header_of (wrong 1)

pub record SizeIs (bytes : List ℕ) (s : Sides) (n : ℕ) : Type 0 where
  pub is : read_lines 1 old_parts bytes ≡ with_size s (read_lines 4 (unit_part ∷ []) (drop n bytes))
  pub within : n ≤ length bytes

unfoldable pub SizeOf : List ℕ → Option Size → Type 0
SizeOf bytes None = NoSize bytes
SizeOf bytes (Some s) = SizeIs bytes s.sides s.taken
