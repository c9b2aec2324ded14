-- The kernels at one cell of the room are the meaning's at one cell of the fields. Assumes nothing.
use Prim.Native.Nat.{ℕ, ◌+◌, ◌-◌, ◌≤◌, ◌<◌}
use mathlib.Core.Path.{◌≡◌, refl, sym, ap, ap₂, ◌∙◌}
use mathlib.Core.Bool.{cond}
use mathlib.Core.List.{List, ◌++◌}
use native.Mathlib.Omega.{arith}
use lib.ListN.{length, get_or, take, drop, set, length-drop, take-append-drop}
use lib.Seq.{take_all, get_or-take, get_or-drop, take-set-lt, drop-set-lt}
use lib.Ieee.{Float, nan, binary64, of_bits, div}
use Rattle.laws.specs.Binary64.{◌⊕◌, ◌⊖◌, ◌⊗◌, ◌⊘◌, ofℕ}
use Rattle.method.specs.declared.Sides.{Sides}
use Rattle.method.specs.Cast.{cells, degree}
use Rattle.method.specs.Transfers.{value}
use Rattle.method.specs.Cycle.{air_sum, applied, rest, change, relaxed}
use Rattle.grid.proofs.Steps.{air_yes}
use Rattle.smooth.specs.Fields.{u_of, b_of, relax_turn}
use Rattle.smooth.proofs.Sums.{air_sum_take}

-- ---- A u and b - A u, from what was gathered and from the fields in the room
pub applied_is : (g : Sides) (ls : List ℕ) (u : List Float) (c k : ℕ) (s : Float) → k ≡ degree g ls c → s ≡ air_sum g ls u c
    → ofℕ k ⊗ value u c ⊖ s ≡ applied g ls u c
unfolding applied
applied_is g ls u c k s ek es = simp (ek, es)

pub rest_is : (g : Sides) (ls : List ℕ) (u : List Float) (c k : ℕ) (b s : Float) → k ≡ degree g ls c → s ≡ air_sum g ls u c
    → b ⊖ (ofℕ k ⊗ value u c ⊖ s) ≡ b ⊖ applied g ls u c
unfolding applied
rest_is g ls u c k b s ek es = simp (ek, es)

-- ---- a part of the room that is lent to its end
pub part_is : (r : List Float) (m : ℕ) → take (length r - m) (drop m r) ≡ drop m r
part_is r m = take_all (length r - m) (drop m r) (omega (arith, length-drop m r))

-- the literals 2.0 and 3.0
pub two_thirds : div binary64 (of_bits binary64 4611686018427387904) (of_bits binary64 4613937818241073152) ≡ ofℕ 2 ⊘ ofℕ 3
unfolding lib.Ieee.of_bits lib.Ieee.of_int
two_thirds = refl

pub applied_take : (g : Sides) (ls : List ℕ) (n : ℕ) (r : List Float) (c : ℕ) → length ls ≤ n → c < n → applied g ls (take n r) c ≡ applied g ls r c
unfolding applied
applied_take g ls n r c h l = ap₂ (λ x s. ofℕ (degree g ls c) ⊗ x ⊖ s) (get_or-take n r c nan l) (air_sum_take g ls n r c h)

pub set_front : (n : ℕ) (r : List Float) (c : ℕ) (x : Float) → c < n → set r c x ≡ set (take n r) c x ++ drop n r
set_front n r c x h = sym (take-append-drop n (set r c x)) ∙ ap₂ ◌++◌ (take-set-lt n r c x h) (drop-set-lt n r c x h)

module _ (g : Sides) (ls : List ℕ) (c : ℕ) (e : List Float) (len : length ls ≡ cells g) (l : c < cells g) where
  b_at : get_or e (length ls + c) nan ≡ value (b_of (cells g) e) c
  b_at = ap (λ n. get_or e (n + c) nan) len ∙ sym (get_or-take (cells g) (drop (cells g) e) c nan l ∙ get_or-drop (cells g) e c nan)

  -- b - A u of a field that begins the list v
  rest_of : (v : List Float) {r : Float} → r ≡ get_or e (length ls + c) nan ⊖ applied g ls v c → r ≡ rest g ls (b_of (cells g) e) (take (cells g) v) c
  unfolding rest
  rest_of v h = h ∙ ap₂ ◌⊖◌ b_at (sym (applied_take g ls (cells g) v c (omega arith) l))

  change_of : (v : List Float) {r d : Float} → d ≡ ofℕ (degree g ls c) → r ≡ get_or e (length ls + c) nan ⊖ applied g ls v c
      → r ⊘ d ≡ change g ls (b_of (cells g) e) (take (cells g) v) c
  unfolding change
  change_of v k h = ap₂ ◌⊘◌ (rest_of v h) k

  pub relax_air : {r d : Float} → get_or ls c 0 ≡ 0 → d ≡ ofℕ (degree g ls c) → r ≡ get_or e (length ls + c) nan ⊖ applied g ls e c
      → set e c (get_or e c nan ⊕ r ⊘ d) ≡ relax_turn g ls c e
  unfolding relaxed
  relax_air {r} {d} a k h =
      set_front (cells g) e c (get_or e c nan ⊕ r ⊘ d) l
      ∙ ap (λ x. set (u_of (cells g) e) c x ++ drop (cells g) e) (ap₂ ◌⊕◌ (sym (get_or-take (cells g) e c nan l)) (change_of e k h))
      ∙ ap (λ t. cond t (set (u_of (cells g) e) c (value (u_of (cells g) e) c ⊕ change g ls (b_of (cells g) e) (u_of (cells g) e) c)) (u_of (cells g) e) ++ drop (cells g) e)
      (sym (air_yes ls c (omega arith) a))
