-- b at a cell, as a whole number. Assumes nothing.
use Prim.Native.Nat.{ℕ, ◌+◌, ◌*◌, ◌^◌, ◌≤◌, ◌<◌}
use mathlib.Core.Path.{◌≡◌, refl, sym, ap, ap₂, ◌∙◌}
use mathlib.Core.Logic.{⊎_elim}
use mathlib.Core.Bool.{true}
use mathlib.Core.List.{List}
use native.Mathlib.Omega.{arith}
use native.Mathlib.Numerals.{add-one}
use borrow.Author.Tests.{eq-eqb, ne_eqb}
use lib.IntN.{ℤ, nat_abs}
use lib.ListN.{length, get_or}
use lib.Ieee.{Float}
use mir.Syntax.{w64}
use mir.Val.{SFits, to_z, of_z}
use mir.Facts.{to_z-of_z}
use Rattle.laws.specs.Loops.{up}
use Rattle.laws.specs.Lists.{over}
use Rattle.laws.specs.Whole.{◌+ᶻ◌}
use Rattle.laws.specs.Binary64.{ofℤ}
use Rattle.laws.proofs.Naturals.{le_or_lt}
use Rattle.laws.proofs.Lists.{over_up}
use Rattle.laws.proofs.Zed.{abs_add}
use Rattle.method.specs.declared.Sides.{Sides}
use Rattle.method.specs.Cast.{label_at, is_opening, field, level, around}
use Rattle.grid.proofs.Steps.{steps, label_out, around_six}
use Rattle.signed_numbers.proofs.Laws.{wholes}
use Rattle.right_side.specs.Sources.{level_step, Levelled, whole_side, WholeSide}

-- ---- one cell, by its label l
module _ (ls : List ℕ) (j l : ℕ) (e : l ≡ label_at ls j) where
  -- an opening has a value
  pub reads_level : (vs : List ℤ) → length vs ≡ length ls → l ≡ 1 → j < length vs
  reads_level vs h k = ⊎_elim (λ b. absurd (omega (arith, label_out ls j (omega arith)))) (λ b. b) (le_or_lt (length vs) j)

  opening : l ≡ 1 → is_opening ls j ≡ true
  unfolding is_opening
  opening k = eq-eqb (label_at ls j) 1 (omega arith)

  pub adds_level : (vs : List ℤ) (s r : ℤ) → l ≡ 1 → nat_abs (field vs j) ≤ 2 ^ 31 → r ≡ s +ᶻ field vs j → Levelled ls vs j s r
  unfolding level_step level
  adds_level vs s r k h q = record { is = rw (opening k) q; small = omega (arith, ap nat_abs q, abs_add s (field vs j)) }

  pub adds_none : (vs : List ℤ) (s : ℤ) → (l ≡ 1 → ⊥) → Levelled ls vs j s s
  unfolding level_step is_opening
  adds_none vs s k = record { is = rw (ne_eqb (label_at ls j) 1 (λ z. k (e ∙ z))); small = omega arith }

-- ---- the six, one after another: after i turns
abbrev pub level_turn : List ℕ → List ℤ → List ℕ → ℕ → ℤ → ℤ
level_turn ls vs near i s = level_step ls vs (get_or near i 0) s

pub record Gathering (ls : List ℕ) (vs : List ℤ) (near : List ℕ) (source : ℤ) (i : ℕ) (s : ℤ) : Type 0 where
  pub is : s ≡ up (level_turn ls vs near) i source
  pub small : nat_abs s ≤ (i + 1) * 2 ^ 31

module _ {ls : List ℕ} {vs : List ℤ} {near : List ℕ} where
  pub gathering_none : {source : ℤ} → nat_abs source ≤ 2 ^ 31 → Gathering ls vs near source 0 source
  unfolding up
  gathering_none h = record { is = refl; small = omega arith }

  pub gathering_more : {source s r : ℤ} {i : ℕ} → Gathering ls vs near source i s → Levelled ls vs (get_or near i 0) s r → Gathering ls vs near source (i + 1) r
  unfolding up
  gathering_more {source} {s} {r} {i} g v = record { is = rw add-one (v.is ∙ ap (level_turn ls vs near i) g.is); small = omega (arith, g.small, v.small) }

  pub gathering_end : (g : Sides) (c i : ℕ) (source s : ℤ) → near ≡ around g c → source ≡ field vs c → Gathering ls vs near source i s → i ≤ 6 → 6 ≤ i
      → WholeSide g ls vs c s
  unfolding level_step whole_side
  gathering_end g c i source s e f h p q =
      let k : i ≡ length near = omega (arith, ap length e, around_six g c) in
      record {
        is = h.is ∙ ap (λ n. up (level_turn ls vs near) n source) k ∙ sym (over_up (is_opening ls) (λ j b. b +ᶻ level ls vs j) near 0 source)
            ∙ ap₂ (λ l b. over (is_opening ls) (λ j b. b +ᶻ level ls vs j) l b) e f;
        small = omega (arith, h.small);
      }

-- ---- what a caller meets: an argument stands behind its bits
pub gives_levelled : (ls : List ℕ) (vs : List ℤ) (j : ℕ) (s r : ℤ) → SFits w64 s → Levelled ls vs j (to_z w64 (of_z w64 s)) r → Levelled ls vs j s r
gives_levelled ls vs j s r f h = rw (← to_z-of_z f) h

pub gives_float : (g : Sides) (ls : List ℕ) (vs : List ℤ) (c : ℕ) (b : ℤ) (v : Float) → SFits w64 b → WholeSide g ls vs c b → v ≡ ofℤ (to_z w64 (of_z w64 b))
    → v ≡ ofℤ (whole_side g ls vs c)
gives_float g ls vs c b v f q w = w ∙ ap ofℤ (to_z-of_z f ∙ q.is)

pub ruleset sides = (wholes, steps, reads_level, adds_level, adds_none, gathering_none, gathering_more, gathering_end, gives_levelled, gives_float)
