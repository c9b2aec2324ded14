-- Document 01, "What comes back": reading a session, for every input. Definitions only.
use Rattle.std.specs.Prelude.{ℕ, ◌-◌, ◌*◌, not, List, [], ◌∷◌, ltb, eqb, length, ℤ}
use Rattle.method.specs.declared.Answer.{Answer}
use Rattle.method.specs.Cast.{cells, sides_fit, settings_fit, label_fault, value_fault}
use Rattle.method.specs.Form.{wrong, Header, header_of, header, bad_line, labels_in, values_in, cast_in}
use Rattle.method.specs.Answers.{refusal, done, Check, check, fault, passed, refused, verdict}
use Rattle.method.specs.Rooms.{filled}

-- ---- reading: bytes, and the lent values
pub record Reading : Type 0 where
  pub bytes : List ℕ
  pub values : List ℤ

abbrev pub named : Reading → Header
named r = header r.bytes

-- "Reading checks 10, 1, 11, 2, 3, 4, 5."
unfoldable pub line_check : Check Reading
line_check = check 10 (λ r. bad_line r.bytes)

unfoldable pub side_check : Check Reading
side_check = check 1 (λ r. fault (not (sides_fit (named r).sides)))

-- "the body is not 5 bytes a cell"
unfoldable pub body_check : Check Reading
body_check = check 11 (λ r. fault (not (eqb (length (named r).body) (5 * cells (named r).sides))))

unfoldable pub room_check : Check Reading
room_check = check 2 (λ r. fault (ltb (length r.values) (cells (named r).sides)))

unfoldable pub content_checks : List (Check Reading)
content_checks =
    check 3 (λ r. fault (not (settings_fit (named r).settings)))
    ∷ check 4 (λ r. label_fault (cast_in (named r))) ∷ check 5 (λ r. value_fault (cast_in (named r)))
    ∷ []

unfoldable pub reader_checks : List (Check Reading)
reader_checks = line_check ∷ side_check ∷ body_check ∷ room_check ∷ content_checks

-- the answer; "The reader also hands back sides, order, settings and the label part"; where in the bytes that part
-- starts; and what the lent values hold
pub record Read : Type 0 where
  pub answer : Answer
  pub header : Header
  pub start : ℕ
  pub labels : List ℕ
  pub values : List ℤ

-- "on a refusal these are 0, `big` and an empty part"
unfoldable pub not_read : Reading → Answer → Read
not_read r a = let none = header_of (wrong 0) in record { answer = a; header = none; start = 0; labels = none.body; values = r.values }

unfoldable pub is_read : Reading → Read
is_read r =
    let h = named r in
    record {
      answer = done;
      header = h;
      start = length r.bytes - length h.body;
      labels = labels_in h;
      values = filled (cells h.sides) (values_in h) r.values;
    }

unfoldable pub reading_by : List (Check Reading) → Reading → Read
reading_by checks r = elim (verdict checks r) [ refused num place ↦ not_read r (refusal num place) | passed ↦ is_read r ]

unfoldable pub reading : Reading → Read
reading r = reading_by reader_checks r

-- one name that opens this file
unfoldable pub computing_reading : Unit {0}
unfolding line_check side_check body_check room_check content_checks reader_checks not_read is_read reading_by reading
computing_reading = tt
