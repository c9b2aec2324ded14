-- Laws of module `near`: a label inside and outside, a step along an axis as the code tests it, the six cells. Assumes
-- nothing.
use mathlib.Core.Path.{◌≡◌, refl, sym, ◌∙◌}
use mathlib.Core.Bool.{true, false}
use mathlib.Core.List.{List, [], ◌∷◌}
use Prim.Native.Nat.{ℕ, ◌+◌, ◌-◌, ◌*◌, ◌/◌, ◌%◌, ◌^◌, ◌≤◌, ◌<◌}
use native.Mathlib.Nat.{mul-le-mul, mul-pos, mod-lt}
use native.Mathlib.Omega.{arith}
use borrow.Author.Rules.{rules}
use borrow.Author.Tests.{eq-eqb, ne_eqb}
use lib.ListN.{length, get_or, get_or-eq_default}
use mir.Syntax.{w64}
use mir.Val.{Fits}
use Rattle.method.specs.declared.Sides.{Sides}
use Rattle.method.specs.Cast.{cells, axes, along, label_at, is_air, back, on, beside, around}
use Rattle.laws.proofs.Lists.{get_or_any}
use Rattle.theory.specs.Sides.{Fit, x_axis, y_axis, z_axis}
use Rattle.theory.proofs.Neighbours.{back_yes, back_no, back_far, on_yes, on_no}

-- ---- labels
pub label_in : (ls : List ℕ) (j : ℕ) → j < length ls → get_or ls j 0 ≡ label_at ls j
unfolding label_at
label_in ls j h = get_or_any ls j 0 2 h

pub label_out : (ls : List ℕ) (j : ℕ) → length ls ≤ j → 2 ≡ label_at ls j
unfolding label_at
label_out ls j h = sym (get_or-eq_default ls 2 h)

-- a cell's label, as code reads it inside, says whether it is air
module _ (ls : List ℕ) (j : ℕ) (h : j < length ls) where
  pub air_yes : get_or ls j 0 ≡ 0 → is_air ls j ≡ true
  unfolding is_air
  air_yes e = eq-eqb (label_at ls j) 0 (sym (label_in ls j h) ∙ e)

  pub air_no : (get_or ls j 0 ≡ 0 → ⊥) → is_air ls j ≡ false
  unfolding is_air
  air_no e = ne_eqb (label_at ls j) 0 (λ p. e (label_in ls j h ∙ p))

-- ---- a step, by its test
module _ (n stride side c : ℕ) where
  pub steps_back : 0 < c / stride % side → c - stride ≡ back n (record { stride = stride; side = side }) c
  unfolding along
  steps_back h = sym (back_yes n (record { stride = stride; side = side }) c h)

  pub stays_back : c / stride % side ≤ 0 → n ≡ back n (record { stride = stride; side = side }) c
  unfolding along
  stays_back h = sym (back_no n (record { stride = stride; side = side }) c h)

  pub steps_on : c / stride % side + 1 < side → c + stride ≡ on n (record { stride = stride; side = side }) c
  unfolding along
  steps_on h = sym (on_yes n (record { stride = stride; side = side }) c h)

  pub stays_on : side ≤ c / stride % side + 1 → n ≡ on n (record { stride = stride; side = side }) c
  unfolding along
  stays_on h = sym (on_no n (record { stride = stride; side = side }) c h)

pub reaches_back : (stride side c : ℕ) → 0 < c / stride % side → stride ≤ c
unfolding along
reaches_back stride side c h = back_far (record { stride = stride; side = side }) c h

pub next_fits : (side q : ℕ) → 0 < side → Fits w64 side → Fits w64 (q % side + 1)
next_fits side q h f = omega (arith, mod-lt q h)

-- ---- how many cells a plane and a cast have
module _ (g : Sides) (z : Fit g) where
  pub plane_pos : 0 < g.nx * g.ny
  plane_pos = mul-pos z.nx_one z.ny_one

  pub plane_most : g.nx * g.ny ≤ 1024
  plane_most = mul-le-mul z.nx_32 z.ny_32

  pub plane_fits : Fits w64 (g.nx * g.ny)
  plane_fits = omega (arith, plane_most)

  pub cells_most : cells g ≤ 32768
  unfolding cells
  cells_most = mul-le-mul z.nx_32 (mul-le-mul z.ny_32 z.nz_32)

  -- a step on along y or z does not wrap
  pub y_near : (c : ℕ) → c < cells g → c + g.nx < 2 ^ 64
  y_near c h = omega (arith, cells_most, z.nx_32)

  pub z_near : (c : ℕ) → c < cells g → c + g.nx * g.ny < 2 ^ 64
  z_near c h = omega (arith, cells_most, plane_most)

-- ---- the six cells
pub around_is : (g : Sides) (n c : ℕ) {w e s r b a : ℕ} → n ≡ cells g
    → w ≡ back n (x_axis g) c → e ≡ on n (x_axis g) c
    → s ≡ back n (y_axis g) c → r ≡ on n (y_axis g) c
    → b ≡ back n (z_axis g) c → a ≡ on n (z_axis g) c
    → w ∷ e ∷ s ∷ r ∷ b ∷ a ∷ [] ≡ around g c
unfolding around beside axes
around_is g n c {w} {e} {s} {r} {b} {a} h hw he hs hr hb ha = rw (← h, hw, he, hs, hr, hb, ha)

pub around_six : (g : Sides) (c : ℕ) → length (around g c) ≡ 6
unfolding around beside axes
around_six g c = refl

pub ruleset steps = (rules, label_in, label_out, steps_back, stays_back, steps_on, stays_on, reaches_back, next_fits, plane_pos, plane_fits, y_near, z_near, around_is)
