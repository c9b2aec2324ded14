-- Laws of the print: a line of a whole number, the lines of an answer, those of all pressures. Assumes nothing.
use mathlib.Core.Path.{◌≡◌, refl, sym, ap, ◌∙◌}
use mathlib.Core.Bool.{true, false}
use mathlib.Core.List.{List, ◌++◌, append_assoc, flat_map}
use Prim.Native.Nat.{ℕ, zero, suc, ◌+◌, ◌*◌, ◌^◌, ◌≤◌, ◌<◌}
use native.Mathlib.Omega.{arith}
use borrow.Author.Rules.{rules}
use lib.ListN.{length}
use lib.IntN.{ℤ, pos, negsuc, nat_abs}
use lib.Signed.{lt_z, mag}
use mir.Syntax.{w32, w64}
use mir.Val.{SFits, to_z, of_z}
use mir.Facts.{to_z-of_z}
use Rattle.laws.specs.Text.{text}
use Rattle.method.specs.declared.Answer.{Answer}
use Rattle.method.specs.Numbers.{decimal}
use Rattle.method.specs.Form.{line}
use Rattle.method.specs.Program.{whole, answer_lines, print}
use Rattle.signed_numbers.proofs.Signs.{same, below, above}
use Rattle.text_out.specs.Puts.{Put}
use Rattle.text_out.proofs.PutLaws.{put_length, put_then, comes_back}
use Rattle.text_out.proofs.DecimalLaws.{most_digits}
use Rattle.session_bytes.specs.Lengths.{three_lines}
use Rattle.session_bytes.proofs.LengthLaws.{line_length, three_length}
use Rattle.answer_print.specs.Shows.{cell_line, worst_lines, cast_lines, answer_room, print_room, PutShort}

-- ---- a line of a key and a whole number
size_most : (p : ℤ) → mag p < 2 ^ 63 → nat_abs p ≤ 2 ^ 63
size_most (pos n) h = omega arith
size_most (negsuc n) h = omega arith

minus_line : (key : List ℕ) (n : ℕ) → key ++ line (text "-") (decimal (suc n)) ≡ line key (whole (negsuc n))
unfolding whole line
minus_line key n = simp append_assoc

module _ (p : ℤ) (f : SFits w64 p) (n : ℕ) (e : n ≡ nat_abs (to_z w64 (of_z w64 p))) (key w : List ℕ) (i : ℕ) where
  size_is : n ≡ nat_abs p
  size_is = e ∙ ap nat_abs (same p f)

  few : length (decimal n) ≤ 19
  few = most_digits 18 n (omega (arith, size_is, size_most p f.sfits))

  pub whole_room : i + (length key + 21) ≤ length w → i + length (line key (decimal n)) ≤ length w
  whole_room r = omega (arith, line_length key n, few)

  pub minus_room : (u : List ℕ) (j : ℕ) → i + (length key + 21) ≤ length w → Put key w i u j → j + length (line (text "-") (decimal n)) ≤ length u
  minus_room u j r q = omega (arith, line_length (text "-") n, few, q.next, put_length q)

  module _ (u : List ℕ) (j : ℕ) where
    pub minus_put : (d : List ℕ) (m : ℕ) → lt_z (to_z w64 (of_z w64 p)) (pos 0) ≡ true → Put key w i u j → Put (line (text "-") (decimal n)) u j d m
        → PutShort (length key + 21) (line key (whole p)) w i d m
    minus_put d m h q r =
        let b = below p f h in
        let s : n ≡ suc (mag p) = size_is ∙ ap nat_abs b in
        let t : key ++ line (text "-") (decimal n) ≡ line key (whole p) = ap (λ v. key ++ line (text "-") (decimal v)) s ∙ minus_line key (mag p) ∙ ap (λ v. line key (whole v)) (sym b) in
        record {
          puts = rw t at (put_then q r);
          short = omega (arith, q.next, r.next, line_length (text "-") n, few);
        }

    pub plain_put : lt_z (to_z w64 (of_z w64 p)) (pos 0) ≡ false → Put (line key (decimal n)) w i u j → PutShort (length key + 21) (line key (whole p)) w i u j
    unfolding whole
    plain_put h q =
        let b = above p f h in
        let m : n ≡ mag p = size_is ∙ ap nat_abs b in
        record {
          puts = rw (b, ← m) q;
          short = omega (arith, q.next, line_length key n, few);
        }

pub ruleset signs = (rules, whole_room, minus_room, minus_put, plain_put)

-- ---- the lines of an answer
ten_digits : (n : ℕ) → n < 2 ^ 32 → length (decimal n) ≤ 10
ten_digits n h = most_digits 9 n (omega arith)

pub short_line : (key : List ℕ) (n : ℕ) → n < 2 ^ 32 → length (line key (decimal n)) ≤ length key + 11
short_line key n h = omega (arith, line_length key n, ten_digits n h)

module _ (a : Answer) (w : List ℕ) (i : ℕ) (x : a.worst < 2 ^ 32) (y : a.worstcell < 2 ^ 32) where
  pub worst_room : i + 70 ≤ length w → i + length (line (text "worst=") (decimal a.worst)) ≤ length w
  worst_room h = omega (arith, short_line (text "worst=") a.worst x)

  module _ (u : List ℕ) (j : ℕ) (p : Put (line (text "worst=") (decimal a.worst)) w i u j) (h : i + 70 ≤ length w) where
    pub cell_room : j + length (line (text "worstcell=") (decimal a.worstcell)) ≤ length u
    cell_room = omega (arith, short_line (text "worst=") a.worst x, short_line (text "worstcell=") a.worstcell y, p.next, put_length p)

    module _ (v : List ℕ) (k : ℕ) (q : Put (line (text "worstcell=") (decimal a.worstcell)) u j v k) where
      pub value_room : k + 32 ≤ length v
      value_room = omega (arith, short_line (text "worst=") a.worst x, short_line (text "worstcell=") a.worstcell y, p.next, put_length p, q.next, put_length q)

      pub worst_put : (d : List ℕ) (m : ℕ) (z : ℤ) → SFits w64 z → SFits w32 a.worstvalue → z ≡ to_z w32 (of_z w32 a.worstvalue)
          → PutShort 32 (line (text "worstvalue=") (whole (to_z w64 (of_z w64 z)))) v k d m → PutShort 70 (worst_lines a) w i d m
      unfolding worst_lines
      worst_put d m z f g e r = record {
        puts = put_then p (put_then q (rw (to_z-of_z f ∙ e ∙ to_z-of_z g) at r.puts));
        short = omega (arith, short_line (text "worst=") a.worst x, short_line (text "worstcell=") a.worstcell y, p.next, q.next, r.short);
      }

pub ruleset worsts = (rules, worst_room, cell_room, value_room, worst_put)

abbrev first_three : Answer → List ℕ
first_three a = three_lines (text "answer=") a.number (text "place=") a.place (text "rounds=") a.rounds

module _ (a : Answer) (w : List ℕ) (i : ℕ) (x : a.interior < 2 ^ 32) (y : a.depth < 2 ^ 32) (h : i + 37 ≤ length w) where
  pub interior_room : i + length (line (text "interior=") (decimal a.interior)) ≤ length w
  interior_room = omega (arith, short_line (text "interior=") a.interior x)

  module _ (u : List ℕ) (j : ℕ) (p : Put (line (text "interior=") (decimal a.interior)) w i u j) where
    pub depth_room : j + length (line (text "depth=") (decimal a.depth)) ≤ length u
    depth_room = omega (arith, short_line (text "interior=") a.interior x, short_line (text "depth=") a.depth y, p.next, put_length p)

    pub cast_put : (d : List ℕ) (m : ℕ) → Put (line (text "depth=") (decimal a.depth)) u j d m → PutShort 37 (cast_lines a) w i d m
    unfolding cast_lines
    cast_put d m q = record {
      puts = put_then p q;
      short = omega (arith, short_line (text "interior=") a.interior x, short_line (text "depth=") a.depth y, p.next, q.next);
    }

pub ruleset casts = (rules, interior_room, depth_room, cast_put)

answer_parts : (a : Answer) → answer_lines a ≡ first_three a ++ (worst_lines a ++ cast_lines a)
unfolding answer_lines worst_lines cast_lines three_lines
answer_parts a = simp append_assoc

module _ (a : Answer) (w : List ℕ) (i : ℕ) (x : a.number < 2 ^ 32) (y : a.place < 2 ^ 32) (z : a.rounds < 2 ^ 32) (h : i + answer_room ≤ length w) where
  short_three : length (first_three a) ≤ 53
  short_three = omega
      (arith, three_length (text "answer=") a.number (text "place=") a.place (text "rounds=") a.rounds, ten_digits a.number x, ten_digits a.place y, ten_digits a.rounds z)

  pub first_room : i + length (first_three a) ≤ length w
  first_room = omega (arith, short_three)

  module _ (u : List ℕ) (j : ℕ) (p : Put (first_three a) w i u j) where
    pub worst_fits : j + 70 ≤ length u
    worst_fits = omega (arith, short_three, p.next, put_length p)

    module _ (v : List ℕ) (k : ℕ) (q : PutShort 70 (worst_lines a) u j v k) where
      pub cast_fits : k + 37 ≤ length v
      cast_fits = omega (arith, short_three, p.next, put_length p, q.short, put_length q.puts)

      pub answer_put : (d : List ℕ) (m : ℕ) → PutShort 37 (cast_lines a) v k d m → PutShort answer_room (answer_lines a) w i d m
      answer_put d m r = record {
        puts = rw (answer_parts a) (put_then p (put_then q.puts r.puts));
        short = omega (arith, short_three, p.next, q.short, r.short);
      }

pub ruleset answers = (rules, first_room, worst_fits, cast_fits, answer_put)

-- ---- the whole print
module _ (a : Answer) (ps : List ℤ) (w u : List ℕ) (j : ℕ) where
  pub show_room : print_room (length ps) ≤ length w → PutShort answer_room (answer_lines a) w 0 u j → j + 26 * length ps ≤ length u
  show_room r p = omega (arith, p.short, put_length p.puts)

  pub show_accepted : (d : List ℕ) (m : ℕ) → a.number ≡ 0 → PutShort answer_room (answer_lines a) w 0 u j → PutShort (26 * length ps) (flat_map cell_line ps) u j d m
      → PutShort (print_room (length ps)) (print a ps) w 0 d m
  unfolding print
  show_accepted d m e p q = record { puts = rw (print, e) (put_then p.puts q.puts); short = omega (arith, p.short, q.short) }

  pub show_other : (a.number ≡ 0 → ⊥) → PutShort answer_room (answer_lines a) w 0 u j → PutShort (print_room (length ps)) (print a ps) w 0 u j
  unfolding print
  show_other e p = record { puts = go a.number refl; short = omega (arith, p.short) }
    where
      go : (k : ℕ) → a.number ≡ k → Put (print a ps) w 0 u j
      go zero q = absurd (e q)
      go (suc k) q = rw (print, q) p.puts

-- what was lent comes back, as with `comes_back`
pub shows_back : {N : Type 0} {n m : N} {most : ℕ} {bytes old x y : List ℕ} {i j : ℕ} → m ≡ n → PutShort most bytes old i y j → (n ≡ m → x ≡ y) → PutShort most bytes old i x j
shows_back same p back = record { puts = comes_back same p.puts back; short = p.short }

pub ruleset shows = (rules, show_room, show_accepted, show_other)
