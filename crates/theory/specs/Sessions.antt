-- What it is that a session is written and read again. Definitions only.
use Rattle.std.specs.Prelude.{ℕ, ◌<◌, ◌≡◌, List, ◌++◌, length, get_or, drop, ℤ}
use Rattle.method.specs.Cast.{cells}
use Rattle.method.specs.Form.{cast_in}
use Rattle.method.specs.Answers.{done, passed, verdict}
use Rattle.method.specs.Reading.{Reading, Read, reader_checks, named}
use Rattle.method.specs.Writing.{Writing, Written, writer_checks}

-- each element of the list is a byte
abbrev pub Bytes : List ℕ → Type 0
Bytes bs = (i : ℕ) → get_or bs i 0 < 256

-- all checks pass
abbrev pub Read0 : Reading → Type 0
Read0 r = verdict reader_checks r ≡ passed

abbrev pub Written0 : Writing → Type 0
Written0 w = verdict writer_checks w ≡ passed

-- what is read is what was written, and the lent values beyond the cells are as they were
pub record ReadBack (w : Writing) (vs : List ℤ) (r : Read) : Type 0 where
  pub answer : r.answer ≡ done
  pub sides : r.header.sides ≡ w.cast.sides
  pub order : r.header.order ≡ w.order
  pub settings : r.header.settings ≡ w.settings
  pub labels : r.labels ≡ w.cast.labels
  pub values : r.values ≡ w.cast.values ++ drop (cells w.cast.sides) vs

-- what is written is what was read, and the lent output beyond it is as it was
pub record WrittenBack (bs lent : List ℕ) (w : Written) : Type 0 where
  pub answer : w.answer ≡ done
  pub count : w.count ≡ length bs
  pub output : w.output ≡ bs ++ drop (length bs) lent

-- the session that was read, to be written
abbrev pub again : Reading → List ℕ → Writing
again r output = record { cast = cast_in (named r); order = (named r).order; settings = (named r).settings; output = output }
