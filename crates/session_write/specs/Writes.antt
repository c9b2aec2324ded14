-- What the writer promises, and what its judgement means.
use Rattle.std.specs.Prelude.{◌≡◌, List, ℕ, ◌≤◌, length, replicate, ℤ, Result, Ok, Err}
use Rattle.method.specs.declared.Sides.{Sides}
use Rattle.method.specs.declared.Order.{Order}
use Rattle.method.specs.declared.Settings.{Settings}
use Rattle.method.specs.Cast.{cells, sides_fit, settings_fit}
use Rattle.method.specs.Form.{written}
use Rattle.method.specs.Answers.{verdict}
use Rattle.method.specs.Writing.{Writing, writer_lengths_fit, writer_checks, writing}
use Rattle.checks.specs.Faults.{cell_ruling}
use Rattle.checks.specs.Rulings.{ruling_of, unless, first_of}
use Rattle.session_write.specs.declared.Written.{Written}
use Rattle.answers.specs.declared.Fault.{Fault}
use Rattle.answers.specs.declared.Fault.TheVariants.{SideOutOfRange, WrongLength, SettingOutOfRange}

-- a session to be written to an output
abbrev pub offered : Sides → Order → Settings → List ℕ → List ℤ → List ℕ → Writing
offered s o t ls vs output = record { cast = record { sides = s; labels = ls; values = vs }; order = o; settings = t; output = output }

-- THE PROMISE of `write`: what comes back, and what the lent output holds, are those of method's `writing`.
pub record WriteOf (s : Sides) (o : Order) (t : Settings) (ls : List ℕ) (vs : List ℤ) (old : List ℕ) (r : Written) (new : List ℕ) : Type 0 where
  pub answer : r.answer ≡ (writing (offered s o t ls vs old)).answer
  pub count : r.count ≡ (writing (offered s o t ls vs old)).count
  pub output : new ≡ (writing (offered s o t ls vs old)).output

-- ---- inside: the judgement
unfoldable pub RoomIf : ℕ → ℕ → Result (Unit {0}) Fault → Type 0
RoomIf need room (Err e) = Unit {0}
RoomIf need room (Ok u) = need ≤ room

-- checks 1 and 3, of the sides and the settings
abbrev pub limit_ruling : Sides → Settings → Result (Unit {0}) Fault
limit_ruling s t = first_of (unless SideOutOfRange (sides_fit s)) (unless SettingOutOfRange (settings_fit t))

-- checks 2, 4 and 5
abbrev pub slice_ruling : Writing → Result (Unit {0}) Fault
slice_ruling w = first_of (unless WrongLength (writer_lengths_fit w)) (cell_ruling w.cast.labels w.cast.values (cells w.cast.sides))

pub record RuledOf (s : Sides) (o : Order) (t : Settings) (ls : List ℕ) (vs : List ℤ) (room : ℕ) (r : Result (Unit {0}) Fault) : Type 0 where
  pub is : verdict writer_checks (offered s o t ls vs (replicate room 0)) ≡ ruling_of r
  pub roomy : RoomIf (length (written (record { sides = s; labels = ls; values = vs }) o t)) room r
