-- What it is that an old session is written and read again (document 02, wish 2). Definitions only.
use Rattle.std.specs.Prelude.{ℕ, ◌≡◌, List, ◌++◌, drop, ℤ}
use Rattle.method.specs.Cast.{cells}
use Rattle.method.specs.declared.Settings.{Settings}
use Rattle.method.specs.Answers.{done, passed, verdict}
use Rattle.method.specs.OldForm.{OldReading, OldRead, OldWriting, old_reader_checks, old_writer_checks, old_named, old_cast_in, old_bytes_of}

-- all checks pass
abbrev pub OldRead0 : OldReading → Type 0
OldRead0 r = verdict old_reader_checks r ≡ passed

abbrev pub OldWritten0 : OldWriting → Type 0
OldWritten0 w = verdict old_writer_checks w ≡ passed

-- what is read is what was written, the unit too, and the lent values beyond the cells are as they were
pub record OldReadBack (w : OldWriting) (vs : List ℤ) (r : OldRead) : Type 0 where
  pub answer : r.answer ≡ done
  pub sides : r.sides ≡ w.cast.sides
  pub unit : r.unit ≡ w.unit
  pub labels : r.labels ≡ w.cast.labels
  pub values : r.values ≡ w.cast.values ++ drop (cells w.cast.sides) vs

-- the bytes that were written, to be read; the session that was read, to be written with its unit
abbrev pub old_to_read : OldWriting → Settings → List ℤ → OldReading
old_to_read w t vs = record { settings = t; bytes = old_bytes_of w; values = vs }

abbrev pub old_again : OldReading → List ℕ → OldWriting
old_again r output = record { cast = old_cast_in (old_named r); unit = (old_named r).unit; output = output }
