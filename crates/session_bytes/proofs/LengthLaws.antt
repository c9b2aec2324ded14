-- Laws of lengths: of lines, of a header, of a whole session. Assumes nothing.
use mathlib.Core.Path.{◌≡◌, refl, sym, ap, ◌∙◌}
use mathlib.Core.List.{List, ◌++◌, flat_map}
use Prim.Native.Nat.{ℕ, ◌+◌, ◌*◌}
use native.Mathlib.Omega.{arith}
use borrow.Author.Rules.{rules}
use lib.IntN.{ℤ}
use lib.ListN.{length, length-append}
use Rattle.laws.specs.Text.{text}
use Rattle.method.specs.declared.Sides.{Sides}
use Rattle.method.specs.declared.Order.{Order}
use Rattle.method.specs.declared.Order.TheVariants.{Big, Little}
use Rattle.method.specs.declared.Settings.{Settings}
use Rattle.method.specs.Numbers.{decimal}
use Rattle.method.specs.Form.{line, order_word, header_written, value_written, written}
use Rattle.session_bytes.specs.Lengths.{three_lines, ThreeDigits, OrderLength, HeaderLength}
use Rattle.session_bytes.proofs.PartLaws.{side_lines, setting_lines, header_parts, values_length}

pub line_length : (key : List ℕ) (n : ℕ) → length (line key (decimal n)) ≡ length key + length (decimal n) + 1
unfolding line
line_length key n = length-append (key ++ decimal n) (text "\n") ∙ ap (λ k. k + 1) (length-append key (decimal n))

pub three_length : (a : List ℕ) (x : ℕ) (b : List ℕ) (y : ℕ) (c : List ℕ) (z : ℕ)
    → length (three_lines a x b y c z) ≡ length a + length b + length c + 3 + (length (decimal x) + length (decimal y) + length (decimal z))
unfolding three_lines
three_length a x b y c z =
    length-append (line a (decimal x) ++ line b (decimal y)) (line c (decimal z))
    ∙ omega (arith, length-append (line a (decimal x)) (line b (decimal y)), line_length a x, line_length b y, line_length c z)

pub order_big : (o : Order) → o ≡ Big → OrderLength o 10
unfolding line order_word
order_big o e = rw e (record { is = refl; few = omega arith })

pub order_little : (o : Order) → o ≡ Little → OrderLength o 13
unfolding line order_word
order_little o e = rw e (record { is = refl; few = omega arith })

pub header_long : (s : Sides) (o : Order) (t : Settings) (a b c : ℕ) → ThreeDigits s.nx s.ny s.nz a → OrderLength o b
    → ThreeDigits t.tolerance t.levels t.rounds c → HeaderLength s o t (a + b + c + 39)
header_long s o t a b c p q r = record {
  is = sym (ap length (header_parts s o t) ∙ length-append (side_lines s ++ line (text "order=") (order_word o)) (setting_lines t)
      ∙ omega (arith, length-append (side_lines s) (line (text "order=") (order_word o)), three_length (text "nx=") s.nx (text "ny=") s.ny (text "nz=") s.nz, three_length (text "tolerance=") t.tolerance (text "levels=") t.levels (text "rounds=") t.rounds, p.is, q.is, r.is));
  few = omega (arith, p.few, q.few, r.few);
}

pub written_length : (s : Sides) (o : Order) (t : Settings) (ls : List ℕ) (vs : List ℤ)
    → length (written (record { sides = s; labels = ls; values = vs }) o t) ≡ length (header_written s o t) + length ls + 4 * length vs
unfolding written
written_length s o t ls vs =
    length-append (header_written s o t ++ ls) (flat_map (value_written o) vs) ∙ omega (arith, length-append (header_written s o t) ls, values_length o vs)

pub ruleset lengths = (rules, order_big, order_little, header_long)
