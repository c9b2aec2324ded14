-- What the reader promises, and what its judgement means.
use Rattle.std.specs.Prelude.{◌≡◌, true, eqb, List, ℕ, ◌*◌, ◌≤◌, length, drop, replicate, ℤ, pos, None, Result, Ok, Err}
use Rattle.method.specs.Cast.{cells, sides_fit, settings_fit, first}
use Rattle.method.specs.declared.Sides.{Sides}
use Rattle.method.specs.declared.Order.{Order}
use Rattle.method.specs.declared.Settings.{Settings}
use Rattle.method.specs.declared.Order.TheVariants.{Big}
use Rattle.theory.specs.Sessions.{Bytes}
use Rattle.theory.specs.Sides.{Fit}
use Rattle.method.specs.Form.{header, bad_line}
use Rattle.method.specs.Answers.{Verdict, passed, refused, verdict, refusal, done}
use Rattle.method.specs.Reading.{Reading, reader_checks, reading}
use Rattle.checks.specs.Faults.{bad_label_at}
use Rattle.checks.specs.Rulings.{ruling_by, unless, first_of}
use Rattle.answers.specs.Faults.{number_of, place_of}
use Rattle.answers.specs.declared.Fault.{Fault}
use Rattle.answers.specs.declared.Fault.TheVariants.{SideOutOfRange, SettingOutOfRange, BadLabel, BadValue, BadBody}
use Rattle.session_values.specs.Body.{bad_value_in}
use Rattle.session_header.specs.Lines.{named}
use Rattle.session_header.specs.declared.Header.{Header}
use Rattle.session_read.specs.declared.Session.{Session}
use Rattle.session_read.specs.declared.Taken.{Taken}

-- THE PROMISE of `read`: what comes back, and what the lent values hold, are those of method's `reading`; and what was
-- read is bytes, as its type says.
pub record ReadOf (bytes : List ℕ) (old : List ℤ) (r : Session) (new : List ℤ) : Type 0 where
  pub answer : r.answer ≡ (reading (record { bytes = bytes; values = old })).answer
  pub sides : r.sides ≡ (reading (record { bytes = bytes; values = old })).header.sides
  pub order : r.order ≡ (reading (record { bytes = bytes; values = old })).header.order
  pub settings : r.settings ≡ (reading (record { bytes = bytes; values = old })).header.settings
  pub start : r.start ≡ (reading (record { bytes = bytes; values = old })).start
  pub values : new ≡ (reading (record { bytes = bytes; values = old })).values
  pub are_bytes : Bytes bytes

-- a session read with room for so many values: no check looks at what the values are
abbrev pub asked : List ℕ → ℕ → Reading
asked bytes room = record { bytes = bytes; values = replicate room (pos 0) }

-- ---- inside: the judgement
unfoldable pub verdict_of : Result Header Fault → Verdict
verdict_of (Err e) = refused (number_of e) (place_of e)
verdict_of (Ok h) = passed

-- a header that names n cells, with a body of n cells after it
pub record Sized (bytes : List ℕ) (h : Header) (n : ℕ) : Type 0 where
  pub is : header bytes ≡ named bytes h
  pub within : h.start ≤ length bytes
  pub fit : sides_fit h.sides ≡ true
  pub cells : n ≡ cells h.sides
  pub few : n ≤ 32768
  pub long : length (drop h.start bytes) ≡ 5 * n

-- a header of a session whose sides and length are right
pub record Bodied (bytes : List ℕ) (h : Header) : Type 0 where
  pub line : bad_line bytes ≡ None
  pub sized : Sized bytes h (cells h.sides)

-- checks 1 and 11, of the sides and how many bytes the body has
abbrev pub size_ruling : Sides → ℕ → Result (Unit {0}) Fault
size_ruling s left = first_of (unless SideOutOfRange (sides_fit s)) (unless BadBody (eqb left (5 * cells s)))

-- checks 4 and 5 of a body of n cells, and 3 of the settings before them
abbrev pub body_ruling : List ℕ → ℕ → Order → Result (Unit {0}) Fault
body_ruling body n o = first_of (ruling_by BadLabel (first (bad_label_at body) n)) (ruling_by BadValue (first (bad_value_in body n o) n))

abbrev pub content_ruling : Settings → List ℕ → ℕ → Order → Result (Unit {0}) Fault
content_ruling t body n o = first_of (unless SettingOutOfRange (settings_fit t)) (body_ruling body n o)

pub record Ready (bytes : List ℕ) (room : ℕ) (h : Header) : Type 0 where
  pub sized : Sized bytes h (cells h.sides)
  pub roomy : cells h.sides ≤ room

unfoldable pub ReadyIf : List ℕ → ℕ → Result Header Fault → Type 0
ReadyIf bytes room (Err e) = Unit {0}
ReadyIf bytes room (Ok h) = Ready bytes room h

pub record JudgedOf (bytes : List ℕ) (room : ℕ) (r : Result Header Fault) : Type 0 where
  pub is : verdict reader_checks (asked bytes room) ≡ verdict_of r
  pub ready : ReadyIf bytes room r

-- ---- inside: what is taken of it
unfoldable pub FitIf : Result Header Fault → Type 0
FitIf (Err e) = Unit {0}
FitIf (Ok h) = Fit h.sides

unfoldable pub taken_of : Result Header Fault → Taken
taken_of (Err e) = record {
  session = record { answer = refusal (number_of e) (place_of e); sides = record { nx = 0; ny = 0; nz = 0 }; order = Big; settings = record { tolerance = 0; levels = 0; rounds = 0 }; start = 0 };
  count = 0;
}
taken_of (Ok h) = record {
  session = record { answer = done; sides = h.sides; order = h.order; settings = h.settings; start = h.start };
  count = cells h.sides;
}
