-- The checks before 7 by what they look at: sides, labels, settings, the number of sets, and the lengths of what is
-- lent.
use Rattle.std.specs.Prelude.{ℕ, ◌*◌, Bool, ◌&&◌, List, ltb, leb, eqb, length, Result}
use Rattle.method.specs.declared.Sides.{Sides}
use Rattle.method.specs.declared.Settings.{Settings}
use Rattle.method.specs.Cast.{cells, sides_fit, settings_fit, interior, first}
use Rattle.method.specs.Rooms.{byte_need, float_need, word_need}
use Rattle.answers.specs.declared.Fault.{Fault}
use Rattle.answers.specs.declared.Fault.TheVariants.{SideOutOfRange, WrongLength, SettingOutOfRange, BadLabel, NoAir}
use Rattle.checks.specs.Rulings.{ruling_by, unless, first_of}
use Rattle.checks.specs.Faults.{bad_label_at}
use Rattle.method.specs.Many.{AskedMany, field_count, sets_fit}
use Rattle.many_checks.specs.declared.Lengths.{Lengths}

-- the lengths of what is lent, beside the labels
unfoldable pub lengths_of : AskedMany → Lengths
lengths_of a = record {
  values = length a.values;
  pressures = length a.pressures;
  answers = length a.answers;
  bytes = length a.bytes;
  floats = length a.floats;
  words = length a.words;
}

-- check 2, by the lengths
unfoldable pub lengths_by : ℕ → ℕ → ℕ → Lengths → Bool
lengths_by n sets labels of =
    eqb labels n && (eqb of.values (sets * n) && (eqb of.pressures (sets * n) && (eqb of.answers (sets * field_count)
    && (leb (byte_need n) of.bytes && (leb (float_need n) of.floats && leb (word_need n) of.words)))))

-- checks 3, 4 and 6
abbrev pub content_ruling : Sides → List ℕ → Settings → ℕ → ℕ → Result (Unit {0}) Fault
content_ruling g ls t sets n =
    first_of (unless SettingOutOfRange (settings_fit t && sets_fit sets))
    (first_of (ruling_by BadLabel (first (bad_label_at ls) n)) (unless NoAir (ltb 0 (interior g ls))))

-- all of them: that this is the verdict of document 02's checks is shown in proofs/ManyJudging
abbrev pub many_ruling : Sides → List ℕ → Settings → ℕ → Lengths → Result (Unit {0}) Fault
many_ruling g ls t sets of =
    first_of (unless SideOutOfRange (sides_fit g))
    (first_of (unless WrongLength (lengths_by (cells g) sets (length ls) of)) (content_ruling g ls t sets (cells g)))
