-- The greatest number, and the number of cells, among the cells that pass a test, as the meaning's loops find them.
-- Assumes nothing.
use mathlib.Core.Path.{◌≡◌, refl, sym, ◌∙◌}
use mathlib.Core.Logic.{◌⊎◌, inl, inr, ⊎_elim}
use mathlib.Core.Bool.{Bool, true, false, cond}
use Prim.Native.Nat.{ℕ, zero, suc, ◌<◌, ◌≤◌, max}
use native.Mathlib.Nat.{eq-or-lt_of_le, le_of_suc-le-suc}
use native.Mathlib.Omega.{arith}
use lib.Dec.{T}
use Rattle.laws.specs.Loops.{up}
use Rattle.laws.proofs.Naturals.{le_or_lt}

abbrev pub greatest : (ℕ → Bool) → (ℕ → ℕ) → ℕ → ℕ
greatest p f n = up (λ c w. cond (p c) (max w (f c)) w) n 0

module _ (p : ℕ → Bool) (f : ℕ → ℕ) where
  -- none is greater
  pub greatest_all : (n i : ℕ) → i < n → T (p i) → f i ≤ greatest p f n
  unfolding up
  greatest_all zero i l t = absurd (omega arith)
  greatest_all (suc n) i l t = ⊎_elim
      (λ e. rw e (here (p n) (rw e at t)))
      (λ k. more (p n) (greatest_all n i k t))
      (eq-or-lt_of_le (le_of_suc-le-suc l))
    where
      here : (b : Bool) → T b → f n ≤ cond b (max (greatest p f n) (f n)) (greatest p f n)
      here true t = omega arith
      here false t = absurd t

      more : (b : Bool) → f i ≤ greatest p f n → f i ≤ cond b (max (greatest p f n) (f n)) (greatest p f n)
      more true h = omega arith
      more false h = h

  -- and it is 0, or one of them
  pub greatest_is : (n : ℕ) → (greatest p f n ≡ 0) ⊎ ((i : ℕ) × (i < n) × T (p i) × (f i ≡ greatest p f n))
  unfolding up
  greatest_is zero = inl refl
  greatest_is (suc n) = go (p n) (λ t. t) (greatest_is n)
    where
      keep : {x : ℕ} → greatest p f n ≡ x → (greatest p f n ≡ 0) ⊎ ((i : ℕ) × (i < n) × T (p i) × (f i ≡ greatest p f n))
          → (x ≡ 0) ⊎ ((i : ℕ) × (i < suc n) × T (p i) × (f i ≡ x))
      keep e r = ⊎_elim (λ z. inl (sym e ∙ z)) (λ w. inr (w.0, omega (arith, w.1), w.2, w.3 ∙ e)) r

      go : (b : Bool) → (T b → T (p n)) → (greatest p f n ≡ 0) ⊎ ((i : ℕ) × (i < n) × T (p i) × (f i ≡ greatest p f n))
          → (cond b (max (greatest p f n) (f n)) (greatest p f n) ≡ 0) ⊎ ((i : ℕ) × (i < suc n) × T (p i) × (f i ≡ cond b (max (greatest p f n) (f n)) (greatest p f n)))
      go true g r = ⊎_elim
          (λ h. keep (omega arith) r)
          (λ h. inr (n, omega arith, g tt, omega arith))
          (le_or_lt (f n) (greatest p f n))
      go false g r = keep refl r

-- if some cell passes, the greatest is one of them
pub greatest_attained : (p : ℕ → Bool) (f : ℕ → ℕ) (n i : ℕ) → i < n → T (p i) → (j : ℕ) × (j < n) × T (p j) × (f j ≡ greatest p f n)
greatest_attained p f n i l t = ⊎_elim (λ z. (i, l, t, omega (arith, z, greatest_all p f n i l t))) (λ r. r) (greatest_is p f n)
