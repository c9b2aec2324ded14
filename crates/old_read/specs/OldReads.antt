-- What the reader promises, and what its judgement means.
use Rattle.std.specs.Prelude.{◌≡◌, true, not, ◌&&◌, List, ℕ, ◌+◌, ◌*◌, ◌^◌, ◌≤◌, ◌<◌, eqb, ltb, length, drop, replicate, ℤ, pos, Result, Ok, Err}
use Rattle.method.specs.Cast.{cells, sides_fit, settings_fit, first}
use Rattle.method.specs.declared.Sides.{Sides}
use Rattle.method.specs.declared.Settings.{Settings}
use Rattle.method.specs.Answers.{Verdict, passed, refused, verdict, refusal, done}
use Rattle.method.specs.OldForm.{OldReading, old_header, old_reader_checks, old_reading, unit_fits}
use Rattle.theory.specs.Sides.{Fit}
use Rattle.checks.specs.Faults.{bad_label_at}
use Rattle.checks.specs.Rulings.{ruling_by, unless, first_of}
use Rattle.answers.specs.Faults.{number_of, place_of}
use Rattle.answers.specs.declared.Fault.{Fault}
use Rattle.answers.specs.declared.Fault.TheVariants.{SideOutOfRange, WrongLength, SettingOutOfRange, BadLabel, BadValue, BadBody}
use Rattle.old_header.specs.OldLines.{old_named_by}
use Rattle.old_header.specs.declared.OldHeader.{OldHeader}
use Rattle.old_read.specs.OldBody.{bad_old_value}
use Rattle.old_read.specs.declared.OldSession.{OldSession}
use Rattle.old_read.specs.declared.Taken.{Taken}

-- what is asked of the reader
abbrev pub old_lent : Settings → List ℕ → List ℤ → OldReading
old_lent t bytes old = record { settings = t; bytes = bytes; values = old }

-- THE PROMISE of `read_old`: what comes back, and what the lent values hold, are those of method's `old_reading`.
pub record OldReadOf (t : Settings) (bytes : List ℕ) (old : List ℤ) (r : OldSession) (new : List ℤ) : Type 0 where
  pub answer : r.answer ≡ (old_reading (old_lent t bytes old)).answer
  pub sides : r.sides ≡ (old_reading (old_lent t bytes old)).sides
  pub unit : r.unit ≡ (old_reading (old_lent t bytes old)).unit
  pub start : r.start ≡ (old_reading (old_lent t bytes old)).start
  pub values : new ≡ (old_reading (old_lent t bytes old)).values

-- an old session read with room for so many values: no check looks at what the values are
abbrev pub old_asked : Settings → List ℕ → ℕ → OldReading
old_asked t bytes room = old_lent t bytes (replicate room (pos 0))

-- ---- inside: the judgement
unfoldable pub old_verdict_of : Result OldHeader Fault → Verdict
old_verdict_of (Err e) = refused (number_of e) (place_of e)
old_verdict_of (Ok h) = passed

-- checks 1, 11, 2 and 3
abbrev pub old_size_ruling : Sides → ℕ → ℕ → ℕ → Settings → Result (Unit {0}) Fault
old_size_ruling s u left room t =
    first_of (unless SideOutOfRange (sides_fit s))
    (first_of (unless BadBody (eqb left (3 * cells s)))
    (first_of (unless WrongLength (not (ltb room (cells s)))) (unless SettingOutOfRange (unit_fits u && settings_fit t))))

-- checks 4 and 5, of a body of n cells
abbrev pub old_body_ruling : List ℕ → ℕ → ℕ → Result (Unit {0}) Fault
old_body_ruling body n u =
    first_of (ruling_by BadLabel (first (bad_label_at (drop (2 * n) body)) n)) (ruling_by BadValue (first (bad_old_value body (drop (2 * n) body) u) n))

-- what the lines name, with a body of 3 bytes a cell after them
pub record OldSized (bytes : List ℕ) (h : OldHeader) : Type 0 where
  pub is : old_header bytes ≡ old_named_by bytes h
  pub within : h.start ≤ length bytes
  pub fit : sides_fit h.sides ≡ true
  pub long : length (drop h.start bytes) ≡ 3 * cells h.sides
  pub unit : h.unit ≤ 1000

pub record OldReady (bytes : List ℕ) (room : ℕ) (h : OldHeader) : Type 0 where
  pub sized : OldSized bytes h
  pub roomy : cells h.sides ≤ room

unfoldable pub OldReadyIf : List ℕ → ℕ → Result OldHeader Fault → Type 0
OldReadyIf bytes room (Err e) = Unit {0}
OldReadyIf bytes room (Ok h) = OldReady bytes room h

pub record OldJudgedOf (t : Settings) (bytes : List ℕ) (room : ℕ) (r : Result OldHeader Fault) : Type 0 where
  pub is : verdict old_reader_checks (old_asked t bytes room) ≡ old_verdict_of r
  pub ready : OldReadyIf bytes room r

-- ---- inside: what is taken of it
pub record Takes (h : OldHeader) : Type 0 where
  pub fit : Fit h.sides
  pub near : h.start + 2 * cells h.sides < 2 ^ 64

unfoldable pub TakesIf : Result OldHeader Fault → Type 0
TakesIf (Err e) = Unit {0}
TakesIf (Ok h) = Takes h

unfoldable pub old_taken_of : Result OldHeader Fault → Taken
old_taken_of (Err e) = record {
  session = record { answer = refusal (number_of e) (place_of e); sides = record { nx = 0; ny = 0; nz = 0 }; unit = 0; start = 0 };
  body = 0;
  count = 0;
}
old_taken_of (Ok h) = record {
  session = record { answer = done; sides = h.sides; unit = h.unit; start = h.start + 2 * cells h.sides };
  body = h.start;
  count = cells h.sides;
}
