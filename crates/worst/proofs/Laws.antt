-- Laws of the walk for the worst cell. Assumes nothing.
use Prim.Native.Nat.{ℕ, ◌^◌, ◌<◌}
use mathlib.Core.Path.{◌≡◌, sym, ap, ap₂, ◌∙◌}
use mathlib.Core.Bool.{Bool, true, false, ◌&&◌}
use mathlib.Core.List.{List}
use native.Mathlib.Omega.{arith}
use borrow.Author.Tests.{eq-eqb, ne_eqb}
use lib.Dec.{eqb, eqb→eq}
use lib.IntN.{ℤ, pos, nat_abs}
use lib.Ieee.{Float}
use mir.Syntax.{w32}
use mir.Val.{SFits}
use Rattle.laws.proofs.Bools.{and_l, and_r}
use Rattle.method.specs.declared.Sides.{Sides}
use Rattle.std.specs.Prelude.{Option, None, Some}
use Rattle.method.specs.Cast.{cells, label_at, is_air, judged, field, residual, worst, first, is_worst, worst_cell, worst_value}
use Rattle.theory.proofs.Reach.{test_air}
use Rattle.theory.proofs.Firsts.{FirstAt, Search, found, none, search_first}
use Rattle.answers.specs.declared.Worst.{Worst}
use Rattle.ticks.specs.Faces.{Residual}
use Rattle.acceptance.specs.Cells.{rounded_on}
use Rattle.signed_numbers.proofs.Laws.{wholes, narrow_fits}
use Rattle.worst.specs.Worst.{cast_of, Sought, worst_of}

-- ---- one cell
module _ (g : Sides) (ls : List ℕ) (vs ps : List ℤ) (c : ℕ) where
  pub sized_is : (l n w : ℕ) (r : ℤ) → l ≡ label_at ls c → l ≡ 0 → Residual g ls vs ps c r → n ≡ nat_abs r → w ≡ worst (cast_of g ls vs) ps → eqb n w ≡ is_worst (cast_of g ls vs) ps c
  unfolding is_worst judged is_air
  sized_is l n w r e h z q m =
      let air : eqb (label_at ls c) 0 ≡ true = eq-eqb (label_at ls c) 0 (sym e ∙ h) in
      ap₂ eqb (q ∙ ap nat_abs z.is) m ∙ sym (ap (λ b. b && eqb (nat_abs (residual g ls (field vs) (field ps) c)) (worst (cast_of g ls vs) ps)) air)

  pub not_air : (l : ℕ) → l ≡ label_at ls c → (l ≡ 0 → ⊥) → false ≡ is_worst (cast_of g ls vs) ps c
  unfolding is_worst judged is_air
  not_air l e h =
      sym (ap (λ b. b && eqb (nat_abs (residual g ls (field vs) (field ps) c)) (worst (cast_of g ls vs) ps)) (ne_eqb (label_at ls c) 0 (λ q. h (e ∙ q))))

-- ---- the first of them
module _ {g : Sides} {ls : List ℕ} {vs : List ℤ} {x : List Float} {w : ℕ} (z : Sought g ls vs x w) where
  abbrev ps : List ℤ
  ps = rounded_on g ls vs x

  abbrev test : ℕ → Bool
  test = is_worst (cast_of g ls vs) (rounded_on g ls vs x)

  -- ---- what was found
  abbrev pair : ℕ → ℤ → Worst
  pair c v = record { cell = c; left = v }

  abbrev cell_in : Option ℕ → ℕ
  cell_in f = elim f [ Some c ↦ c | None ↦ 0 ]

  abbrev value_in : Option ℕ → ℤ
  value_in f = elim f [ Some c ↦ residual g ls (field vs) (field (rounded_on g ls vs x)) c | None ↦ pos 0 ]

  module _ (c : ℕ) (f : Option ℕ) (e : f ≡ first test (cells g)) (h : f ≡ Some c) where
    found_at : FirstAt test (cells g) c
    found_at = go (search_first test (cells g))
      where
        same : {i j : ℕ} → Some i ≡ Some j → i ≡ j
        same q = cc

        never : {i : ℕ} → None ≡ Some i → ⊥
        never q = let o : ◌≡◌ {A = ℕ} 0 1 = cc in omega arith

        go : Search test (cells g) → FirstAt test (cells g) c
        go (found i q r) = let k : i ≡ c = same (sym q ∙ sym e ∙ h) in rw (sym k) r
        go (none q r) = absurd (never (sym q ∙ sym e ∙ h))

    pub found_below : c < cells g
    found_below = found_at.below

    pub found_air : 0 ≡ label_at ls c
    unfolding is_worst judged
    found_air = sym (test_air ls c (and_l (is_air ls c) _ found_at.here))

    found_small : (r : ℤ) → Residual g ls vs ps c r → nat_abs r < 2 ^ 31
    unfolding is_worst judged
    found_small r q =
        let size : nat_abs (residual g ls (field vs) (field ps) c) ≡ worst (cast_of g ls vs) ps = eqb→eq _ _ (and_r (is_air ls c) _ found_at.here) in
        omega (arith, ap nat_abs q.is, size, z.is, z.small)

    pub found_fits : (r : ℤ) → Residual g ls vs ps c r → SFits w32 r
    found_fits r q = narrow_fits r (found_small r q)

    pub found_is : (r s : ℤ) → Residual g ls vs ps c r → s ≡ r → ◌≡◌ {A = Worst} (record { cell = c; left = s }) (worst_of (cast_of g ls vs) ps)
    unfolding worst_cell worst_value
    found_is r s q o =
        let here : Some c ≡ first test (cells g) = sym h ∙ e in
        ap₂ pair (ap cell_in here) (o ∙ q.is ∙ ap value_in here)

  pub nothing_is : (f : Option ℕ) → f ≡ first test (cells g) → f ≡ None → ◌≡◌ {A = Worst} (record { cell = 0; left = pos 0 }) (worst_of (cast_of g ls vs) ps)
  unfolding worst_cell worst_value
  nothing_is f e h = let here : None ≡ first test (cells g) = sym h ∙ e in ap₂ pair (ap cell_in here) (ap value_in here)

pub ruleset walking = (wholes, sized_is, not_air)
