-- What the solver is asked, and its promise.
use Rattle.std.specs.Prelude.{ℕ, ◌≡◌, Bool, ◌&&◌, List, ltb, leb, eqb, ℤ, Float, Result}
use Rattle.method.specs.declared.Sides.{Sides}
use Rattle.method.specs.declared.Settings.{Settings}
use Rattle.method.specs.declared.Answer.{Answer}
use Rattle.method.specs.Cast.{settings_fit, interior}
use Rattle.method.specs.Rooms.{byte_need, float_need, word_need}
use Rattle.method.specs.Solving.{Asked, solving}
use Rattle.answers.specs.declared.Fault.{Fault}
use Rattle.answers.specs.declared.Fault.TheVariants.{SettingOutOfRange, NoAir}
use Rattle.checks.specs.Rulings.{unless, first_of}
use Rattle.checks.specs.Faults.{cell_ruling}
use Rattle.rounds.specs.Rounds.{cast_of}

-- what is handed in and lent
abbrev pub asked : Sides → List ℕ → List ℤ → Settings → List ℤ → List ℕ → List Float → List ℕ → Asked
asked g ls vs t ps bytes floats words = record { cast = cast_of g ls vs; settings = t; pressures = ps; bytes = bytes; floats = floats; words = words }

-- THE PROMISE: the answer, and what everything lent holds, are document 01's, for every input
pub record SolveOf (a : Asked) (r : Answer) (ps : List ℤ) (bytes : List ℕ) (floats : List Float) (words : List ℕ) : Type 0 where
  pub answer : r ≡ (solving a).answer
  pub pressures : ps ≡ (solving a).pressures
  pub byte_room : bytes ≡ (solving a).bytes
  pub float_room : floats ≡ (solving a).floats
  pub word_room : words ≡ (solving a).words

-- ---- the checks
-- check 2, by the lengths
unfoldable pub lengths_by : ℕ → ℕ → ℕ → ℕ → ℕ → ℕ → ℕ → Bool
lengths_by n labels values pressures bytes floats words =
    eqb labels n && (eqb values n && (eqb pressures n && (leb (byte_need n) bytes && (leb (float_need n) floats && leb (word_need n) words))))

-- checks 3 to 6
abbrev pub content_ruling : Sides → List ℕ → List ℤ → Settings → ℕ → Result (Unit {0}) Fault
content_ruling g ls vs t n =
    first_of (unless SettingOutOfRange (settings_fit t)) (first_of (cell_ruling ls vs n) (unless NoAir (ltb 0 (interior g ls))))
