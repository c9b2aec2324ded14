-- Document 02, wish 2, "The old session form, in and out": the form, its reading and its writing, built of document
-- 01's words. Definitions only.
use Rattle.std.specs.Prelude.{ℕ, suc, ◌+◌, ◌-◌, ◌*◌, ◌/◌, ◌%◌, ◌^◌, Bool, not, ◌&&◌, cond, ltb, leb, eqb, get_or, length, take, drop, ℤ, pos, negsuc, nat_abs, Option, None, Some}
use mathlib.Core.List.{List, [], ◌∷◌, ◌++◌, flat_map}
use Rattle.laws.specs.Lists.{tab}
use Rattle.laws.specs.Text.{text}
use Rattle.laws.specs.Whole.{◌*ᶻ◌, neg}
use Rattle.method.specs.declared.Sides.{Sides}
use Rattle.method.specs.declared.Settings.{Settings}
use Rattle.method.specs.declared.Answer.{Answer}
use Rattle.method.specs.Cast.{Cast, cells, field, first, between, sides_fit, settings_fit, label_fault, value_fault}
use Rattle.method.specs.Numbers.{decimal, digits}
use Rattle.method.specs.Form.{Line, bad, after, closed, Lines, wrong, right, read_lines, most_first, line}
use Rattle.method.specs.Answers.{refusal, done, Check, check, fault, passed, refused, verdict}
use Rattle.method.specs.Rooms.{filled}
use Rattle.method.specs.Writing.{Written}

-- ---- "one line `size=AxBxC`, one line `unit=U`": four numbers, each after a key and up to an end. "Numbers are
-- spelled as in 01."
unfoldable pub number_to : List ℕ → List ℕ → List ℕ → Line
number_to end key bs =
    elim (after key bs) [ None ↦ bad | Some cs ↦ closed (digits cs) (after end (drop (length (digits cs)) cs)) ]

unfoldable pub old_parts : List (List ℕ → Line)
old_parts =
    number_to (text "x") (text "size=") ∷ number_to (text "x") [] ∷ number_to (text "\n") []
    ∷ number_to (text "\n") (text "unit=") ∷ []

-- the first three of the four stand in line 1, the last in line 2
unfoldable pub line_of_part : ℕ → ℕ
line_of_part k = cond (leb k 3) 1 2

-- What the two lines name, and the body after them. Where a line is not of the form: zeros, nothing.
pub record OldHeader : Type 0 where
  pub sides : Sides
  pub unit : ℕ
  pub body : List ℕ

unfoldable pub old_header_of : Lines → OldHeader
old_header_of (wrong k) = record { sides = record { nx = 0; ny = 0; nz = 0 }; unit = 0; body = [] }
old_header_of (right vs rest) = record { sides = record { nx = get_or vs 0 0; ny = get_or vs 1 0; nz = get_or vs 2 0 }; unit = get_or vs 3 0; body = rest }

unfoldable pub old_header : List ℕ → OldHeader
old_header bs = old_header_of (read_lines 1 old_parts bs)

unfoldable pub old_wrong_line : Lines → Option ℕ
old_wrong_line (wrong k) = Some (line_of_part k)
old_wrong_line (right vs rest) = None

unfoldable pub old_bad_line : List ℕ → Option ℕ
old_bad_line bs = old_wrong_line (read_lines 1 old_parts bs)

-- ---- "then 16-bit signed values, always most significant byte first, then labels"
unfoldable pub short_signed : ℕ → ℤ
short_signed w = cond (ltb w (2 ^ 15)) (pos w) (negsuc (2 ^ 16 - suc w))

unfoldable pub short_word : ℤ → ℕ
short_word (pos n) = n
short_word (negsuc n) = 2 ^ 16 - suc n

unfoldable pub two_bytes : ℕ → List ℕ
two_bytes w = (w / 2 ^ 8 % 256) ∷ (w % 256) ∷ []

-- "A tick value is the stored number times U"; the number that is stored for a value
unfoldable pub old_value_read : ℕ → List ℕ → ℤ
old_value_read u bs = pos u *ᶻ short_signed (most_first 0 bs)

unfoldable pub stored : ℕ → ℤ → ℤ
stored u (pos n) = pos (n / u)
stored u (negsuc n) = neg (pos (suc n / u))

unfoldable pub old_value_written : ℕ → ℤ → List ℕ
old_value_written u z = two_bytes (short_word (stored u z))

unfoldable pub old_labels_in : OldHeader → List ℕ
old_labels_in h = let n = cells h.sides in take n (drop (2 * n) h.body)

unfoldable pub old_values_in : OldHeader → List ℤ
old_values_in h = tab (cells h.sides) (λ c. old_value_read h.unit (take 2 (drop (2 * c) h.body)))

unfoldable pub old_cast_in : OldHeader → Cast
old_cast_in h = record { sides = h.sides; labels = old_labels_in h; values = old_values_in h }

-- ---- the bytes of an old session
unfoldable pub size_word : Sides → List ℕ
size_word s = decimal s.nx ++ text "x" ++ decimal s.ny ++ text "x" ++ decimal s.nz

unfoldable pub old_header_written : Sides → ℕ → List ℕ
old_header_written s u = line (text "size=") (size_word s) ++ line (text "unit=") (decimal u)

unfoldable pub old_written : Cast → ℕ → List ℕ
old_written k u = old_header_written k.sides u ++ flat_map (old_value_written u) k.values ++ k.labels

-- ---- "U 1 to 1,000"
unfoldable pub unit_fits : ℕ → Bool
unit_fits u = between 1 1000 u

-- ---- reading: "It has no settings; the caller passes them"; the bytes, and the lent values
pub record OldReading : Type 0 where
  pub settings : Settings
  pub bytes : List ℕ
  pub values : List ℤ

abbrev pub old_named : OldReading → OldHeader
old_named r = old_header r.bytes

-- "reading checks 10 (place 1 or 2), 1, 11, 2, 3 (unit or settings), 4, 5"
unfoldable pub old_line_check : Check OldReading
old_line_check = check 10 (λ r. old_bad_line r.bytes)

unfoldable pub old_side_check : Check OldReading
old_side_check = check 1 (λ r. fault (not (sides_fit (old_named r).sides)))

-- "the body is 3 bytes a cell"
unfoldable pub old_body_check : Check OldReading
old_body_check = check 11 (λ r. fault (not (eqb (length (old_named r).body) (3 * cells (old_named r).sides))))

unfoldable pub old_room_check : Check OldReading
old_room_check = check 2 (λ r. fault (ltb (length r.values) (cells (old_named r).sides)))

unfoldable pub old_content_checks : List (Check OldReading)
old_content_checks =
    check 3 (λ r. fault (not (unit_fits (old_named r).unit && settings_fit r.settings)))
    ∷ check 4 (λ r. label_fault (old_cast_in (old_named r))) ∷ check 5 (λ r. value_fault (old_cast_in (old_named r)))
    ∷ []

unfoldable pub old_reader_checks : List (Check OldReading)
old_reader_checks = old_line_check ∷ old_side_check ∷ old_body_check ∷ old_room_check ∷ old_content_checks

-- the answer; sides, unit and the label part, with where it starts in the bytes; and what the lent values hold
pub record OldRead : Type 0 where
  pub answer : Answer
  pub sides : Sides
  pub unit : ℕ
  pub start : ℕ
  pub labels : List ℕ
  pub values : List ℤ

-- where the body starts in the bytes
unfoldable pub body_start : OldReading → ℕ
body_start r = length r.bytes - length (old_named r).body

-- "which the reader hands back (0 on a refusal)"
unfoldable pub old_not_read : OldReading → Answer → OldRead
old_not_read r a =
    let none = old_header_of (wrong 0) in
    record { answer = a; sides = none.sides; unit = none.unit; start = 0; labels = none.body; values = r.values }

unfoldable pub old_is_read : OldReading → OldRead
old_is_read r =
    let h = old_named r in
    let n = cells h.sides in
    record { answer = done; sides = h.sides; unit = h.unit; start = body_start r + 2 * n; labels = old_labels_in h; values = filled n (old_values_in h) r.values }

unfoldable pub old_reading : OldReading → OldRead
old_reading r = elim (verdict old_reader_checks r) [ refused num place ↦ old_not_read r (refusal num place) | passed ↦ old_is_read r ]

-- ---- writing: a cast and a unit, and the lent output
pub record OldWriting : Type 0 where
  pub cast : Cast
  pub unit : ℕ
  pub output : List ℕ

abbrev pub old_bytes_of : OldWriting → List ℕ
old_bytes_of w = old_written w.cast w.unit

unfoldable pub old_lengths_fit : OldWriting → Bool
old_lengths_fit w =
    eqb (length w.cast.labels) (cells w.cast.sides) && (eqb (length w.cast.values) (cells w.cast.sides)
    && leb (length (old_bytes_of w)) (length w.output))

-- "refuses a value that isn't a multiple of it or doesn't fit 16 bits": "13, value not expressible, place its first
-- cell"
unfoldable pub fits16 : ℤ → Bool
fits16 (pos n) = ltb n (2 ^ 15)
fits16 (negsuc n) = ltb n (2 ^ 15)

unfoldable pub expressible : ℕ → ℤ → Bool
expressible u z = eqb (nat_abs z % u) 0 && fits16 (stored u z)

unfoldable pub not_expressible : ℕ → Cast → Option ℕ
not_expressible u k = first (λ c. not (expressible u (field k.values c))) (cells k.sides)

-- "writing checks 1, 3 (unit), 2, 4, 5, then new 13"
unfoldable pub old_writer_checks : List (Check OldWriting)
old_writer_checks =
    check 1 (λ w. fault (not (sides_fit w.cast.sides)))
    ∷ check 3 (λ w. fault (not (unit_fits w.unit)))
    ∷ check 2 (λ w. fault (not (old_lengths_fit w)))
    ∷ check 4 (λ w. label_fault w.cast)
    ∷ check 5 (λ w. value_fault w.cast) ∷ check 13 (λ w. not_expressible w.unit w.cast)
    ∷ []

unfoldable pub old_writing : OldWriting → Written
old_writing w =
    elim (verdict old_writer_checks w) [
      | refused num place ↦ record { answer = refusal num place; count = 0; output = w.output }
      | passed ↦ record { answer = done; count = length (old_bytes_of w); output = filled (length (old_bytes_of w)) (old_bytes_of w) w.output }
    ]

-- one name that opens this file
unfoldable pub computing_old : Unit {0}
unfolding number_to old_parts line_of_part old_header_of old_header old_wrong_line old_bad_line short_signed short_word two_bytes old_value_read stored old_value_written old_labels_in old_values_in old_cast_in size_word old_header_written old_written unit_fits old_line_check old_side_check old_body_check old_room_check old_content_checks old_reader_checks body_start old_not_read old_is_read old_reading old_lengths_fit fits16 expressible not_expressible old_writer_checks old_writing
computing_old = tt
