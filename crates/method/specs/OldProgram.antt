-- Document 02, wish 2, for the archive's keeper: what is printed of an old session that is answered directly, and the
-- same session in the new form.
-- "It has no settings; the caller passes them." Definitions only.
use Rattle.std.specs.Prelude.{ℕ, List, [], replicate, pos}
use Rattle.laws.specs.Binary64.{+0}
use Rattle.method.specs.declared.Settings.{Settings}
use Rattle.method.specs.declared.Order.{Order}
use Rattle.method.specs.declared.Answer.{Answer}
use Rattle.method.specs.Cast.{cells}
use Rattle.method.specs.Form.{written}
use Rattle.method.specs.Answers.{refusal, done, passed, refused, verdict}
use Rattle.method.specs.Rooms.{byte_need, float_need, word_need}
use Rattle.method.specs.Solving.{Asked, solving}
use Rattle.method.specs.Program.{print, shown}
use Rattle.method.specs.OldForm.{OldHeader, old_cast_in, OldReading, old_named, old_reader_checks}

-- an old session and the caller's settings, read with room for so many values
abbrev pub old_taken : ℕ → Settings → List ℕ → OldReading
old_taken room t bs = record { settings = t; bytes = bs; values = replicate room (pos 0) }

-- the solver asked with rooms of just the size needed
unfoldable pub old_posed : OldHeader → Settings → Asked
old_posed h t =
    let n = cells h.sides in
    record {
      cast = old_cast_in h;
      settings = t;
      pressures = replicate n (pos 0);
      bytes = replicate (byte_need n) 0;
      floats = replicate (float_need n) +0;
      words = replicate (word_need n) 0;
    }

-- as the program prints: "They show the reader's answer if it refuses, else the solver's."
unfoldable pub old_printed : ℕ → Settings → List ℕ → List ℕ
old_printed room t bs =
    let r = old_taken room t bs in
    elim (verdict old_reader_checks r) [ refused num place ↦ print (refusal num place) [] | passed ↦ shown (solving (old_posed (old_named r) t)) ]

-- the same session in the new form: the reader's answer, and on 0 the bytes of the cast in an order, with the caller's
-- settings
pub record Renewal : Type 0 where
  pub answer : Answer
  pub bytes : List ℕ

unfoldable pub renewal : ℕ → Order → Settings → List ℕ → Renewal
renewal room o t bs =
    let r = old_taken room t bs in
    elim (verdict old_reader_checks r) [
      | refused num place ↦ record { answer = refusal num place; bytes = [] }
      | passed ↦ record { answer = done; bytes = written (old_cast_in (old_named r)) o t }
    ]

-- one name that opens this file
unfoldable pub computing_old_program : Unit {0}
unfolding old_posed old_printed renewal
computing_old_program = tt
