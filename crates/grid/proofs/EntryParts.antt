-- The parts of an entry. Assumes nothing.
use Prim.Native.Nat.{ℕ, ◌+◌, ◌*◌, ◌/◌, ◌%◌, ◌≤◌, ◌<◌}
use mathlib.Core.Path.{◌≡◌, refl, ap, ◌∙◌}
use mathlib.Core.Bool.{Bool, true, false, cond}
use mathlib.Core.List.{List}
use native.Mathlib.Omega.{arith}
use borrow.Author.Rules.{rules}
use borrow.Author.Tests.{eq-eqb, ne_eqb, lt-ltb, le-ltb}
use lib.ListN.{get_or}
use Rattle.laws.specs.Lists.{over}
use Rattle.method.specs.declared.Sides.{Sides}
use Rattle.method.specs.Cast.{axes, cells, is_air, no_wall, label_at, back, on, beside, around, degree}
use Rattle.theory.specs.Sides.{x_axis, y_axis, z_axis}
use Rattle.grid.specs.Entries.{one, air_bits, entry_of, face_of}

-- ---- the parts
pub one_most : (b : Bool) → one b ≤ 1
one_most true = omega arith
one_most false = omega arith

pub one_true : (b : Bool) → one b ≡ 1 → b ≡ true
one_true true h = refl
one_true false h = absurd (omega arith)

abbrev word : ℕ → Bool → Bool → Bool → Bool → Bool → Bool → ℕ → ℕ
word c p q r s t u d = c + 32768 * (one p + 2 * (one q + 2 * (one r + 2 * (one s + 2 * (one t + 2 * (one u + 2 * 0)))))) + 2097152 * d

module _ (c : ℕ) (p q r s t u : Bool) (d : ℕ) (h : c < 32768) where
  part_cell : word c p q r s t u d % 32768 ≡ c
  part_cell = omega arith

  part_0 : word c p q r s t u d / 32768 % 2 ≡ one p
  part_0 = omega (arith, one_most p)

  part_1 : word c p q r s t u d / 65536 % 2 ≡ one q
  part_1 = omega (arith, one_most p, one_most q)

  part_2 : word c p q r s t u d / 131072 % 2 ≡ one r
  part_2 = omega (arith, one_most p, one_most q, one_most r)

  part_3 : word c p q r s t u d / 262144 % 2 ≡ one s
  part_3 = omega (arith, one_most p, one_most q, one_most r, one_most s)

  part_4 : word c p q r s t u d / 524288 % 2 ≡ one t
  part_4 = omega (arith, one_most p, one_most q, one_most r, one_most s, one_most t)

  part_5 : word c p q r s t u d / 1048576 % 2 ≡ one u
  part_5 = omega (arith, one_most p, one_most q, one_most r, one_most s, one_most t, one_most u)

  part_d : word c p q r s t u d / 2097152 ≡ d
  part_d = omega (arith, one_most p, one_most q, one_most r, one_most s, one_most t, one_most u)

module _ (g : Sides) (ls : List ℕ) (c : ℕ) where
  abbrev pub w_air : Bool
  w_air = is_air ls (back (cells g) (x_axis g) c)

  abbrev pub e_air : Bool
  e_air = is_air ls (on (cells g) (x_axis g) c)

  abbrev pub s_air : Bool
  s_air = is_air ls (back (cells g) (y_axis g) c)

  abbrev pub n_air : Bool
  n_air = is_air ls (on (cells g) (y_axis g) c)

  abbrev pub b_air : Bool
  b_air = is_air ls (back (cells g) (z_axis g) c)

  abbrev pub a_air : Bool
  a_air = is_air ls (on (cells g) (z_axis g) c)

  entry_word : entry_of g ls c ≡ word c w_air e_air s_air n_air b_air a_air (degree g ls c)
  unfolding entry_of air_bits around beside axes
  entry_word = refl

  module _ (h : c < 32768) where
    pub cell_is : entry_of g ls c % 32768 ≡ c
    cell_is = rw entry_word (part_cell c w_air e_air s_air n_air b_air a_air (degree g ls c) h)

    pub west_is : entry_of g ls c / 32768 % 2 ≡ one w_air
    west_is = rw entry_word (part_0 c w_air e_air s_air n_air b_air a_air (degree g ls c) h)

    pub east_is : entry_of g ls c / 65536 % 2 ≡ one e_air
    east_is = rw entry_word (part_1 c w_air e_air s_air n_air b_air a_air (degree g ls c) h)

    pub south_is : entry_of g ls c / 131072 % 2 ≡ one s_air
    south_is = rw entry_word (part_2 c w_air e_air s_air n_air b_air a_air (degree g ls c) h)

    pub north_is : entry_of g ls c / 262144 % 2 ≡ one n_air
    north_is = rw entry_word (part_3 c w_air e_air s_air n_air b_air a_air (degree g ls c) h)

    pub below_is : entry_of g ls c / 524288 % 2 ≡ one b_air
    below_is = rw entry_word (part_4 c w_air e_air s_air n_air b_air a_air (degree g ls c) h)

    pub above_is : entry_of g ls c / 1048576 % 2 ≡ one a_air
    above_is = rw entry_word (part_5 c w_air e_air s_air n_air b_air a_air (degree g ls c) h)

    pub d_part : entry_of g ls c / 2097152 ≡ degree g ls c
    d_part = rw entry_word (part_d c w_air e_air s_air n_air b_air a_air (degree g ls c) h)

-- ---- an entry made face by face
module _ (ls : List ℕ) (j l unit : ℕ) (e : l ≡ label_at ls j) where
  pub face_air : l ≡ 0 → 2097152 + unit ≡ face_of ls unit j
  unfolding is_air no_wall
  face_air h = rw (← e, eq-eqb l 0 h, lt-ltb l 2 (omega arith)) (omega arith)

  pub face_opening : (l ≡ 0 → ⊥) → l ≡ 1 → 2097152 ≡ face_of ls unit j
  unfolding is_air no_wall
  face_opening h k = rw (← e, ne_eqb l 0 h, lt-ltb l 2 (omega arith)) (omega arith)

  pub face_wall : (l ≡ 0 → ⊥) → (l ≡ 1 → ⊥) → 0 ≡ face_of ls unit j
  unfolding is_air no_wall
  face_wall h k = rw (← e, ne_eqb l 0 h, le-ltb l 2 (omega arith)) (omega arith)

counted : (b : Bool) (d : ℕ) → cond b (d + 1) d ≡ d + one b
counted true d = refl
counted false d = omega arith

degree_ones : (g : Sides) (ls : List ℕ) (c : ℕ) → degree g ls c
    ≡ one (no_wall ls (back (cells g) (x_axis g) c)) + one (no_wall ls (on (cells g) (x_axis g) c)) + one (no_wall ls (back (cells g) (y_axis g) c))
    + one (no_wall ls (on (cells g) (y_axis g) c)) + one (no_wall ls (back (cells g) (z_axis g) c)) + one (no_wall ls (on (cells g) (z_axis g) c))
unfolding degree over around beside axes
degree_ones g ls c = simp counted (omega arith)

pub entry_is : (g : Sides) (ls near : List ℕ) (c : ℕ) {p q r s t u : ℕ} → near ≡ around g c
    → p ≡ face_of ls 32768 (get_or near 0 0) → q ≡ face_of ls 65536 (get_or near 1 0) → r ≡ face_of ls 131072 (get_or near 2 0)
    → s ≡ face_of ls 262144 (get_or near 3 0) → t ≡ face_of ls 524288 (get_or near 4 0) → u ≡ face_of ls 1048576 (get_or near 5 0)
    → c + p + q + r + s + t + u ≡ entry_of g ls c
unfolding around beside axes
entry_is g ls near c {p} {q} {r} {s} {t} {u} e hp hq hr hs ht hu =
    let hp' : p ≡ face_of ls 32768 (back (cells g) (x_axis g) c) = hp ∙ ap (λ l. face_of ls 32768 (get_or l 0 0)) e in
    let hq' : q ≡ face_of ls 65536 (on (cells g) (x_axis g) c) = hq ∙ ap (λ l. face_of ls 65536 (get_or l 1 0)) e in
    let hr' : r ≡ face_of ls 131072 (back (cells g) (y_axis g) c) = hr ∙ ap (λ l. face_of ls 131072 (get_or l 2 0)) e in
    let hs' : s ≡ face_of ls 262144 (on (cells g) (y_axis g) c) = hs ∙ ap (λ l. face_of ls 262144 (get_or l 3 0)) e in
    let ht' : t ≡ face_of ls 524288 (back (cells g) (z_axis g) c) = ht ∙ ap (λ l. face_of ls 524288 (get_or l 4 0)) e in
    let hu' : u ≡ face_of ls 1048576 (on (cells g) (z_axis g) c) = hu ∙ ap (λ l. face_of ls 1048576 (get_or l 5 0)) e in
    omega (arith, entry_word g ls c, degree_ones g ls c)

pub ruleset faces = (rules, face_air, face_opening, face_wall)
