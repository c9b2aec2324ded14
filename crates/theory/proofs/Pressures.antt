-- The pressures that pass the test: the levels at openings, 0 at walls, whole ticks within ±2^41 in air. Assumes
-- nothing.
use mathlib.Core.Path.{◌≡◌, refl, ap, ◌∙◌}
use mathlib.Core.Logic.{⊎_elim}
use mathlib.Core.Bool.{Bool, true, false, not, cond}
use mathlib.Core.List.{List, [], ◌∷◌, Memᴰ}
use Prim.Native.Nat.{ℕ, zero, suc, ◌*◌, ◌^◌, ◌<◌, ◌≤◌}
use native.Mathlib.Nat.{not-suc-le-zero, le_of_suc-le-suc}
use native.Mathlib.Omega.{arith}
use lib.Dec.{T, T_not, not_T, leb, leb→le}
use lib.ListN.{length, get_or, length-map, get_or-map, get_or-eq_default}
use lib.IntN.{pos, nat_abs}
use lib.Ieee as Ieee
use lib.Ieee.{Float, nan, inf, fin}
use borrow.Author.Tests.{ne_eqb}
use Rattle.laws.specs.Lists.{any}
use Rattle.laws.proofs.Bools.{and_l, and_r, so, is_true}
use Rattle.laws.proofs.Naturals.{le_or_lt}
use Rattle.laws.proofs.Lists.{length_tab, get_or_tab, any_in}
use Rattle.method.specs.declared.Settings.{Settings}
use Rattle.std.specs.Prelude.{ℤ, Option, Some, None}
use Rattle.method.specs.Cast.{Cast, cells, label_at, is_air, is_opening, field, level, worst}
use Rattle.method.specs.Transfers.{value}
use Rattle.method.specs.Ticks.{tick, kept, signed, furthest, nearest, ticks, is_refused, whole_of, rounded, passes}
use Rattle.theory.proofs.Reach.{air_test, opening_test, in_box_lem}

-- ---- a tick that is not refused is within ±2^41
size_signed : (s : Bool) (m : ℕ) → nat_abs (signed s m) ≡ m
unfolding signed
size_signed true zero = refl
size_signed true (suc m) = refl
size_signed false m = refl

kept_within : (s : Bool) (m : ℕ) → T (not (is_refused (kept s m))) → nat_abs (whole_of (kept s m)) ≤ 2 ^ 41
unfolding kept is_refused whole_of furthest
kept_within s m t = go (leb m (2 ^ 41)) (λ u. leb→le m (2 ^ 41) u) t
  where
    go : (b : Bool) → (T b → m ≤ 2 ^ 41) → T (not (is_refused (cond b (Some (signed s m)) None))) → nat_abs (whole_of (cond b (Some (signed s m)) None)) ≤ 2 ^ 41
    go true f t = rw (size_signed s m) (f tt)
    go false f t = absurd t

tick_within : (x : Float) → T (not (is_refused (tick x))) → nat_abs (whole_of (tick x)) ≤ 2 ^ 41
unfolding tick is_refused
tick_within nan t = absurd t
tick_within (inf s) t = absurd t
tick_within (fin s m e) t = kept_within s (nearest (m * Ieee.up e) (Ieee.down e)) t

-- ---- the list of ticks, cell by cell
mem_get_or : {A : Type 0} (l : List A) (i : ℕ) (d : A) → i < length l → Memᴰ (get_or l i d) l
mem_get_or [] i d h = absurd (not-suc-le-zero h)
mem_get_or (a ∷ l) zero d h = Memᴰ.head refl
mem_get_or (a ∷ l) (suc i) d h = Memᴰ.tail (mem_get_or l i d (le_of_suc-le-suc h))

module _ (k : Cast) (x : List Float) where
  at_cell : ℕ → Option ℤ
  at_cell c = cond (is_air k.labels c) (tick (value x c)) (Some (level k.labels k.values c))

  length_ticks : length (ticks k x) ≡ cells k.sides
  unfolding ticks
  length_ticks = length_tab (cells k.sides) (λ c. cond (is_air k.labels c) (tick (value x c)) (Some (level k.labels k.values c)))

  pub length_rounded : length (rounded k x) ≡ cells k.sides
  unfolding rounded
  length_rounded = length-map (ticks k x) whole_of ∙ length_ticks

  ticks_at : (c : ℕ) → c < cells k.sides → get_or (ticks k x) c (Some (pos 0)) ≡ at_cell c
  unfolding ticks at_cell
  ticks_at c l = get_or_tab (cells k.sides) (λ c. cond (is_air k.labels c) (tick (value x c)) (Some (level k.labels k.values c))) c (Some (pos 0)) l

  rounded_at : (c : ℕ) → c < cells k.sides → field (rounded k x) c ≡ whole_of (at_cell c)
  unfolding rounded whole_of
  rounded_at c l = get_or-map whole_of (ticks k x) c (Some (pos 0)) ∙ ap whole_of (ticks_at c l)

  module _ (sized : length k.labels ≡ cells k.sides) where
    pub openings_rounded : (c : ℕ) → label_at k.labels c ≡ 1 → field (rounded k x) c ≡ field k.values c
    unfolding at_cell level is_air whole_of
    openings_rounded c e =
        rounded_at c (in_box_lem (cells k.sides) k.labels sized c (omega arith))
        ∙ ap (λ b. whole_of (cond b (tick (value x c)) (Some (cond (is_opening k.labels c) (field k.values c) (pos 0))))) (ne_eqb (label_at k.labels c) 0 (λ z. omega arith))
        ∙ ap (λ b. cond b (field k.values c) (pos 0)) (is_true (is_opening k.labels c) (opening_test k.labels c e))

    pub walls_rounded : (c : ℕ) → 2 ≤ label_at k.labels c → field (rounded k x) c ≡ pos 0
    unfolding at_cell level is_air is_opening whole_of
    walls_rounded c e = ⊎_elim
        (λ o. get_or-eq_default (rounded k x) (pos 0) (omega (arith, length_rounded)))
        (λ l. rounded_at c l
        ∙ ap (λ b. whole_of (cond b (tick (value x c)) (Some (cond (is_opening k.labels c) (field k.values c) (pos 0))))) (ne_eqb (label_at k.labels c) 0 (λ z. omega arith))
        ∙ ap (λ b. cond b (field k.values c) (pos 0)) (ne_eqb (label_at k.labels c) 1 (λ z. omega arith)))
        (le_or_lt (cells k.sides) c)

    -- ---- where the test passes
    module _ (t : Settings) (passing : passes k t x ≡ true) where
      pub worst_passes : worst k (rounded k x) ≤ t.tolerance
      unfolding passes
      worst_passes = leb→le (worst k (rounded k x)) t.tolerance (and_r (not (any is_refused (ticks k x))) (leb (worst k (rounded k x)) t.tolerance) (so passing))

      none_refused : (c : ℕ) → c < cells k.sides → T (not (is_refused (at_cell c)))
      unfolding passes
      none_refused c l = not_T (is_refused (at_cell c)) (λ r. T_not (any is_refused (ticks k x))
          (and_l (not (any is_refused (ticks k x))) (leb (worst k (rounded k x)) t.tolerance) (so passing))
          (any_in is_refused (ticks k x) (get_or (ticks k x) c (Some (pos 0))) (mem_get_or (ticks k x) c (Some (pos 0)) (omega (arith, length_ticks))) (rw (ticks_at c l) r)))

      pub air_rounded : (c : ℕ) → label_at k.labels c ≡ 0 → nat_abs (field (rounded k x) c) ≤ 2 ^ 41
      unfolding at_cell
      air_rounded c e =
          let l = in_box_lem (cells k.sides) k.labels sized c (omega arith) in
          let is : at_cell c ≡ tick (value x c) = ap (λ b. cond b (tick (value x c)) (Some (level k.labels k.values c))) (is_true (is_air k.labels c) (air_test k.labels c e)) in
          rw (rounded_at c l ∙ ap whole_of is) (tick_within (value x c) (rw is at (none_refused c l)))
