-- Laws of the parts of an old session that are put: lines, values, labels; and of their lengths. Assumes nothing.
use mathlib.Core.Path.{◌≡◌, sym, ap, ◌∙◌}
use mathlib.Core.List.{List, [], ◌++◌, append_assoc, flat_map}
use Prim.Native.Nat.{ℕ, ◌+◌, ◌*◌, ◌≤◌}
use native.Mathlib.Omega.{arith}
use borrow.Author.Rules.{rules}
use lib.ListN.{length, length-append}
use lib.IntN.{ℤ}
use Rattle.laws.specs.Text.{text}
use Rattle.method.specs.declared.Sides.{Sides}
use Rattle.method.specs.Numbers.{decimal}
use Rattle.method.specs.Form.{line}
use Rattle.method.specs.OldForm.{old_value_read, old_value_written, size_word, old_header_written, old_written}
use Rattle.theory.proofs.OldBytes.{length_two, length_rows}
use Rattle.text_out.specs.Puts.{Put, DigitsOf}
use Rattle.text_out.proofs.PutLaws.{put_then, put_room, front_room, all_put, first_room, second_room, third_room}
use Rattle.old_put.specs.OldPuts.{OldHeaderLength}

-- ---- the line of the size: three numbers, each with what stands before and after it
abbrev size_part : ℕ → List ℕ
size_part n = text "size=" ++ decimal n ++ text "x"

abbrev middle_part : ℕ → List ℕ
middle_part n = [] ++ decimal n ++ text "x"

abbrev last_part : ℕ → List ℕ
last_part n = [] ++ decimal n ++ text "\n"

regroup : (a x y z t n : List ℕ) → a ++ (x ++ t ++ y ++ t ++ z) ++ n ≡ (a ++ x ++ t) ++ (y ++ t) ++ (z ++ n)
regroup a x y z t n = simp append_assoc

pub size_parts : (s : Sides) → line (text "size=") (size_word s) ≡ size_part s.nx ++ middle_part s.ny ++ last_part s.nz
unfolding line size_word
size_parts s = regroup (text "size=") (decimal s.nx) (decimal s.ny) (decimal s.nz) (text "x") (text "\n")

module _ (s : Sides) (w : List ℕ) (i : ℕ) where
  module _ (r : i + length (line (text "size=") (size_word s)) ≤ length w) where
    size_room : i + length (size_part s.nx ++ middle_part s.ny ++ last_part s.nz) ≤ length w
    size_room = rw (size_parts s) at r

    pub size_first : i + length (size_part s.nx) ≤ length w
    size_first = first_room (size_part s.nx) (middle_part s.ny) (last_part s.nz) w i size_room

    module _ (u : List ℕ) (j : ℕ) (p : Put (size_part s.nx) w i u j) where
      pub size_second : j + length (middle_part s.ny) ≤ length u
      size_second = second_room (size_part s.nx) (middle_part s.ny) (last_part s.nz) w i size_room u j p

      pub size_third : (v : List ℕ) (k : ℕ) → Put (middle_part s.ny) u j v k → k + length (last_part s.nz) ≤ length v
      size_third v k q = third_room (size_part s.nx) (middle_part s.ny) (last_part s.nz) w i size_room u j p v k q

  pub size_put : (u v d : List ℕ) (j k m : ℕ) → Put (size_part s.nx) w i u j → Put (middle_part s.ny) u j v k → Put (last_part s.nz) v k d m
      → Put (line (text "size=") (size_word s)) w i d m
  size_put u v d j k m p q g = rw (size_parts s) (all_put _ _ _ w u v d i j k m p q g)

pub ruleset sizes = (rules, size_first, size_second, size_third, size_put)

-- ---- both lines
module _ (s : Sides) (n : ℕ) (w : List ℕ) (i : ℕ) where
  lines_room : i + length (old_header_written s n) ≤ length w → i + length (line (text "size=") (size_word s) ++ line (text "unit=") (decimal n)) ≤ length w
  unfolding old_header_written
  lines_room r = r

  pub lines_first : i + length (old_header_written s n) ≤ length w → i + length (line (text "size=") (size_word s)) ≤ length w
  lines_first r = front_room (line (text "size=") (size_word s)) (line (text "unit=") (decimal n)) i (length w) (lines_room r)

  pub lines_second : (u : List ℕ) (j : ℕ) → i + length (old_header_written s n) ≤ length w → Put (line (text "size=") (size_word s)) w i u j → j + length (line (text "unit=") (decimal n)) ≤ length u
  lines_second u j r p = put_room (line (text "size=") (size_word s)) (line (text "unit=") (decimal n)) w u i j p (lines_room r)

  pub lines_put : (u d : List ℕ) (j m : ℕ) → Put (line (text "size=") (size_word s)) w i u j → Put (line (text "unit=") (decimal n)) u j d m → Put (old_header_written s n) w i d m
  unfolding old_header_written
  lines_put u d j m p q = put_then p q

pub ruleset both = (rules, lines_first, lines_second, lines_put)

-- ---- values
pub values_length : (u : ℕ) (vs : List ℤ) → length (flat_map (old_value_written u) vs) ≡ 2 * length vs
values_length u vs = length_rows 2 (old_value_read u) (old_value_written u) (length_two u) vs

-- ---- a whole session
module _ (s : Sides) (u : ℕ) (ls : List ℕ) (vs : List ℤ) (a : List ℕ) where
  module _ (r : length (old_written (record { sides = s; labels = ls; values = vs }) u) ≤ length a) where
    whole_room : 0 + length (old_header_written s u ++ flat_map (old_value_written u) vs ++ ls) ≤ length a
    unfolding old_written
    whole_room = omega (arith, r)

    pub whole_first : 0 + length (old_header_written s u) ≤ length a
    whole_first = first_room (old_header_written s u) (flat_map (old_value_written u) vs) ls a 0 whole_room

    module _ (b : List ℕ) (j : ℕ) (p : Put (old_header_written s u) a 0 b j) where
      pub whole_second : j + 2 * length vs ≤ length b
      whole_second = omega (arith, second_room (old_header_written s u) (flat_map (old_value_written u) vs) ls a 0 whole_room b j p, values_length u vs)

      pub whole_third : (c : List ℕ) (k : ℕ) → Put (flat_map (old_value_written u) vs) b j c k → k + length ls ≤ length c
      whole_third c k q = third_room (old_header_written s u) (flat_map (old_value_written u) vs) ls a 0 whole_room b j p c k q

  pub whole_put : (b c d : List ℕ) (j k m : ℕ) → Put (old_header_written s u) a 0 b j → Put (flat_map (old_value_written u) vs) b j c k → Put ls c k d m
      → Put (old_written (record { sides = s; labels = ls; values = vs }) u) a 0 d m
  unfolding old_written
  whole_put b c d j k m p q g = all_put _ _ _ a b c d 0 j k m p q g

pub ruleset wholes = (rules, whole_first, whole_second, whole_third, whole_put)

-- ---- lengths
size_length : (s : Sides) → length (line (text "size=") (size_word s)) ≡ length (decimal s.nx) + length (decimal s.ny) + length (decimal s.nz) + 8
size_length s =
    let x = length (decimal s.nx) in
    ap length (size_parts s) ∙ length-append (size_part s.nx ++ middle_part s.ny) (last_part s.nz)
    ∙ omega (arith, length-append (size_part s.nx) (middle_part s.ny), length-append (text "size=" ++ decimal s.nx) (text "x"), length-append (text "size=") (decimal s.nx), length-append (decimal s.ny) (text "x"), length-append (decimal s.nz) (text "\n"))

unit_length : (u : ℕ) → length (line (text "unit=") (decimal u)) ≡ length (decimal u) + 6
unfolding line
unit_length u = length-append (text "unit=" ++ decimal u) (text "\n") ∙ omega (arith, length-append (text "unit=") (decimal u))

pub lines_long : (s : Sides) (u x y z w : ℕ) → DigitsOf s.nx x → DigitsOf s.ny y → DigitsOf s.nz z → DigitsOf u w → OldHeaderLength s u (x + y + z + w + 14)
unfolding old_header_written
lines_long s u x y z w a b c d = record {
  is = sym (length-append (line (text "size=") (size_word s)) (line (text "unit=") (decimal u)) ∙ omega (arith, size_length s, unit_length u, a.is, b.is, c.is, d.is));
  few = omega (arith, a.few, b.few, c.few, d.few);
}

pub written_length : (s : Sides) (u : ℕ) (ls : List ℕ) (vs : List ℤ)
    → length (old_written (record { sides = s; labels = ls; values = vs }) u) ≡ length (old_header_written s u) + 2 * length vs + length ls
unfolding old_written
written_length s u ls vs =
    length-append (old_header_written s u ++ flat_map (old_value_written u) vs) ls ∙ omega (arith, length-append (old_header_written s u) (flat_map (old_value_written u) vs), values_length u vs)

pub ruleset lengths = (rules, lines_long)
