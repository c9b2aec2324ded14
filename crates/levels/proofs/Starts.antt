-- Laws of module `sides`: the starts and sides of the levels. Assumes nothing.
use Prim.Native.Nat.{ℕ, zero, suc, ◌+◌, ◌≤◌, ◌<◌, ◌^◌}
use mathlib.Core.Path.{◌≡◌, refl, ap, ◌∙◌}
use native.Mathlib.Numerals.{add-one}
use native.Mathlib.Nat.{le_antisymm}
use native.Mathlib.Omega.{arith}
use borrow.Author.Rules.{rules}
use lib.Dec.{ltb}
use borrow.Author.Tests.{lt-ltb}
use mathlib.Core.Bool.{cond}
use lib.ListN.{set, get_or, replicate}
use Rattle.laws.specs.Lists.{tab}
use Rattle.laws.proofs.Lists.{get_or_tab}
use Rattle.method.specs.declared.Sides.{Sides}
use Rattle.theory.specs.Levels.{sides_at, cells_before}
use Rattle.theory.specs.Sides.{Fit}
use Rattle.theory.proofs.Sides.{fits}
use Rattle.theory.proofs.Sizes.{fit_at, cells_of_six}
use Rattle.grid.proofs.Steps.{cells_most}
use Rattle.levels.specs.declared.sides.Level.{Level}
use Rattle.levels.specs.Levels.{Levels, level_at, levels_of, start_in, sides_in, next_level, firsts}

-- ---- of six places, the first k are filled
module _ {A : Type 0} (z : A) (f : ℕ → A) where
  pub firsts_none : replicate 6 z ≡ firsts z f 0
  unfolding firsts tab
  firsts_none = refl

  pub firsts_more : (k : ℕ) → k < 6 → set (firsts z f k) k (f k) ≡ firsts z f (suc k)
  unfolding firsts tab
  firsts_more zero h = refl
  firsts_more (suc zero) h = refl
  firsts_more (suc (suc zero)) h = refl
  firsts_more (suc (suc (suc zero))) h = refl
  firsts_more (suc (suc (suc (suc zero)))) h = refl
  firsts_more (suc (suc (suc (suc (suc zero))))) h = refl
  firsts_more (suc (suc (suc (suc (suc (suc k)))))) h = absurd (omega arith)

  pub firsts_at : (k i : ℕ) (d : A) → k ≤ 6 → i < k → get_or (firsts z f k) i d ≡ f i
  unfolding firsts
  firsts_at k i d h l = get_or_tab 6 (λ j. cond (ltb j k) (f j) z) i d (omega arith) ∙ ap (λ b. cond b (f i) z) (lt-ltb i k l)

  pub firsts_all : firsts z f 6 ≡ tab 6 f
  unfolding firsts tab
  firsts_all = refl

-- ---- the first k levels are written down, and next is level k
pub record Filling (g : Sides) (first : Level) (k : ℕ) (levels : Levels) (next : Level) : Type 0 where
  pub filled : levels ≡ firsts first (level_at g) k
  pub at : next ≡ level_at g k

pub filling_none : (g : Sides) → let first : Level = record { start = 0; sides = g } in Filling g first 0 (replicate 6 first) first
unfolding level_at sides_at cells_before
filling_none g = record { filled = firsts_none _ (level_at g); at = refl }

module _ (g : Sides) (first : Level) (k : ℕ) (levels : Levels) (next : Level) (u : Filling g first k levels next) where
  pub filling_fit : Fit g → Fit next.sides
  unfolding level_at
  filling_fit z = rw u.at (fit_at g z k)

  pub filling_low : Fit g → k ≤ 6 → next.start < 2 ^ 32
  unfolding level_at
  filling_low z h = omega (arith, ap (λ (l : Level). l.start) u.at, cells_of_six g (fits g z) k h, cells_most g z)

  pub filling_more : (after : Level) → k < 6 → after ≡ next_level next → Filling g first (k + 1) (set levels k next) after
  unfolding level_at next_level sides_at cells_before
  filling_more after h e = rw add-one (record { filled = rw (u.filled, u.at) (firsts_more first (level_at g) k h); at = e ∙ ap next_level u.at })

  pub filling_end : k ≤ 6 → 6 ≤ k → levels ≡ levels_of g
  unfolding levels_of
  filling_end h h' = u.filled ∙ ap (firsts first (level_at g)) (le_antisymm h h') ∙ firsts_all first (level_at g)

pub ruleset fillings = (rules, filling_none, filling_fit, filling_low, filling_more, filling_end)

-- ---- what is read of the levels of a box
level_of : (g : Sides) (k : ℕ) (d : Level) → k < 6 → get_or (levels_of g) k d ≡ level_at g k
unfolding levels_of
level_of g k d h = get_or_tab 6 (level_at g) k d h

pub start_of : (g : Sides) (k : ℕ) → k < 6 → start_in (levels_of g) k ≡ cells_before g k
unfolding level_at
start_of g k h = ap (λ (l : Level). l.start) (level_of g k _ h)

pub sides_of_lem : (g : Sides) (k : ℕ) → k < 6 → sides_in (levels_of g) k ≡ sides_at g k
unfolding level_at
sides_of_lem g k h = ap (λ (l : Level). l.sides) (level_of g k _ h)
