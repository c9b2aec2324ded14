-- What the code's answers about lines mean in method's words.
use Rattle.std.specs.Prelude.{◌≡◌, List, [], ◌∷◌, ℕ, ◌≤◌, length, drop, Option, Some, None, Result, Ok, Err}
use Rattle.method.specs.declared.Sides.{Sides}
use Rattle.method.specs.Form.{Line, bad, good, number_line, order_line, Lines, wrong, right, read_lines, more, header_of, header, bad_line}
use Rattle.method.specs.Form as form
use Rattle.session_header.specs.declared.Read.{Read}
use Rattle.session_header.specs.declared.Three.{Three}
use Rattle.session_header.specs.declared.Header.{Header}
use Rattle.laws.specs.Text.{text}

-- a line that was read from bytes, as method has it
unfoldable pub line_of : List ℕ → Option Read → Line
line_of bytes None = bad
line_of bytes (Some r) = good r.value (drop r.taken bytes)

unfoldable pub taken : Option Read → ℕ
taken None = 0
taken (Some r) = r.taken

pub record LineOf (reads : List ℕ → Line) (bytes : List ℕ) (r : Option Read) : Type 0 where
  pub is : reads bytes ≡ line_of bytes r
  pub within : taken r ≤ length bytes

-- three lines of numbers
unfoldable pub three_of : List ℕ → Result Three ℕ → Lines
three_of bytes (Err k) = wrong k
three_of bytes (Ok t) = right (t.x ∷ t.y ∷ t.z ∷ []) (drop t.taken bytes)

unfoldable pub taken3 : Result Three ℕ → ℕ
taken3 (Err k) = 0
taken3 (Ok t) = t.taken

unfoldable pub three : List ℕ → List ℕ → List ℕ → List (List ℕ → Line)
three a b c = number_line a ∷ number_line b ∷ number_line c ∷ []

pub record ThreeOf (first : ℕ) (a b c bytes : List ℕ) (r : Result Three ℕ) : Type 0 where
  pub is : read_lines first (three a b c) bytes ≡ three_of bytes r
  pub within : taken3 r ≤ length bytes

-- all seven
abbrev pub named : List ℕ → Header → form.Header
named bytes h = record { sides = h.sides; order = h.order; settings = h.settings; body = drop h.start bytes }

unfoldable pub header_in : List ℕ → Result Header ℕ → form.Header
header_in bytes (Err k) = header_of (wrong k)
header_in bytes (Ok h) = named bytes h

unfoldable pub wrong_in : Result Header ℕ → Option ℕ
wrong_in (Err k) = Some k
wrong_in (Ok h) = None

unfoldable pub start_in : Result Header ℕ → ℕ
start_in (Err k) = 0
start_in (Ok h) = h.start

pub record HeaderOf (bytes : List ℕ) (r : Result Header ℕ) : Type 0 where
  pub line : bad_line bytes ≡ wrong_in r
  pub is : header bytes ≡ header_in bytes r
  pub within : start_in r ≤ length bytes

-- the last four, where the sides are known and took i bytes
unfoldable pub last_four : List (List ℕ → Line)
last_four = order_line ∷ three (text "tolerance=") (text "levels=") (text "rounds=")

unfoldable pub with_sides : Sides → Lines → Lines
with_sides s ls = more s.nx (more s.ny (more s.nz ls))

pub record OnFrom (bytes : List ℕ) (i : ℕ) (s : Sides) (r : Result Header ℕ) : Type 0 where
  pub line : form.wrong_line (with_sides s (read_lines 4 last_four (drop i bytes))) ≡ wrong_in r
  pub is : header_of (with_sides s (read_lines 4 last_four (drop i bytes))) ≡ header_in bytes r
  pub within : start_in r ≤ length bytes
