-- The laws of a loop whose body is a step: where it begins, after a turn, and where it ends. Assumes nothing.
use Prim.Native.Nat.{ℕ, zero, suc, ◌+◌, ◌-◌, ◌≤◌, ◌<◌}
use mathlib.Core.Path.{◌≡◌, refl, sym, ap, ◌∙◌}
use native.Mathlib.Numerals.{add-one, sub-one}
use native.Mathlib.Nat.{not-suc-le-zero, le_antisymm}
use borrow.Author.Rules.{rules}
use borrow.Author.Tests.{eq-eqb, ne_eqb, lt-ltb, le-ltb, le-leb, lt-leb}
use Rattle.laws.specs.Loops.{up, down}

module _ {A : Type 0} where
  -- an ascending loop that began at s₀ and has done i turns stands at s
  pub record Up (f : ℕ → A → A) (s₀ : A) (i : ℕ) (s : A) : Type 0 where
    pub is : s ≡ up f i s₀

  pub up_none : {f : ℕ → A → A} {s : A} → Up f s 0 s
  unfolding up
  up_none = record { is = refl }

  pub up_more : {f : ℕ → A → A} {s₀ s t : A} {i : ℕ} → Up f s₀ i s → t ≡ f i s → Up f s₀ (i + 1) t
  unfolding up
  up_more {f} {s₀} {s} {t} {i} h e = record { is = rw add-one (e ∙ ap (f i) h.is) }

  -- after the loop, i is n
  pub up_end : {f : ℕ → A → A} {s₀ s : A} {i : ℕ} (n : ℕ) → Up f s₀ i s → i ≤ n → n ≤ i → s ≡ up f n s₀
  up_end {f} {s₀} {s} {i} n h a b = h.is ∙ ap (λ (k : ℕ). up f k s₀) (le_antisymm a b)

  -- a descending loop that began at s₀ with n turns to do has i turns to do from s
  pub record Down (f : ℕ → A → A) (n : ℕ) (s₀ : A) (i : ℕ) (s : A) : Type 0 where
    pub is : down f i s ≡ down f n s₀

  pub down_none : {f : ℕ → A → A} {s : A} {n : ℕ} → Down f n s n s
  down_none = record { is = refl }

  step_down : (f : ℕ → A → A) (i : ℕ) (s : A) → 0 < i → down f i s ≡ down f (i - 1) (f (i - 1) s)
  unfolding down
  step_down f zero s p = absurd (not-suc-le-zero p)
  step_down f (suc i) s p = ap (λ (k : ℕ). down f k (f k s)) (sym (sub-one (suc i)))

  pub down_more : {f : ℕ → A → A} {s₀ s t : A} {n i : ℕ} → 0 < i → Down f n s₀ i s → t ≡ f (i - 1) s → Down f n s₀ (i - 1) t
  down_more {f} {s₀} {s} {t} {n} {i} p h e = record { is = ap (down f (i - 1)) e ∙ sym (step_down f i s p) ∙ h.is }

  pub down_end : {f : ℕ → A → A} {s₀ s : A} {n i : ℕ} → i ≤ 0 → Down f n s₀ i s → s ≡ down f n s₀
  unfolding down
  down_end {i = zero} p h = h.is
  down_end {i = suc i} p h = absurd (not-suc-le-zero p)

  -- the first turn of an ascending loop, taken out
  pub up_first : (f : ℕ → A → A) (n : ℕ) (s : A) → up f (suc n) s ≡ up (λ i. f (suc i)) n (f 0 s)
  unfolding up
  up_first f zero s = refl
  up_first f (suc n) s = ap (f (suc n)) (up_first f n s)

-- what closes the needs of a loop whose invariant has an `Up` or a `Down`
pub ruleset ups = (rules, up_none, up_more, up_end)

pub ruleset downs = (rules, down_none, down_more, down_end)

-- what closes the needs of a function whose contract goes by the tests of its branches
pub ruleset branches = (rules, eq-eqb, ne_eqb, lt-ltb, le-ltb, le-leb, lt-leb)
