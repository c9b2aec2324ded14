-- How many cells pass a test. Assumes nothing.
use mathlib.Core.Path.{◌≡◌, refl, sym, ap, ◌∙◌}
use mathlib.Core.Logic.{⊎_elim}
use mathlib.Core.Bool.{Bool, true, false, cond}
use mathlib.Core.List.Memᴰ
use mathlib.Core.List.{List, [], ◌∷◌, Memᴰ}
use Prim.Native.Nat.{ℕ, zero, suc, ◌+◌, ◌<◌, ◌≤◌}
use native.Mathlib.Nat.{eq-or-lt_of_le, le_of_suc-le-suc}
use native.Mathlib.Omega.{arith}
use lib.Dec.{T}
use Rattle.laws.specs.Loops.{up}
use Rattle.laws.specs.Lists.{over}
use Rattle.theory.specs.Totals.{total, one_if}
use Rattle.theory.proofs.Region.{total_le, keep_n}

pub count_le : (n : ℕ) (p : ℕ → Bool) → total n (λ i. one_if (p i)) ≤ n
unfolding total
count_le zero p = omega arith
count_le (suc n) p = omega (arith, count_le n p, small (p n))
  where
    small : (b : Bool) → one_if b ≤ 1
    small true = omega arith
    small false = omega arith

-- two tests, the second no narrower: the counts are in order, and if the second's is no greater the tests agree
implied : (a b : Bool) → (T a → T b) → one_if a ≤ one_if b
implied true true f = omega arith
implied true false f = absurd (f tt)
implied false b f = omega arith

pub wider : (n : ℕ) (p q : ℕ → Bool) → ((i : ℕ) → T (p i) → T (q i)) → total n (λ i. one_if (p i)) ≤ total n (λ i. one_if (q i))
wider n p q h = total_le n (λ i. one_if (p i)) (λ i. one_if (q i)) (λ i l. implied (p i) (q i) (h i))

pub agree : (n : ℕ) (p q : ℕ → Bool) → ((i : ℕ) → T (p i) → T (q i)) → total n (λ i. one_if (q i)) ≤ total n (λ i. one_if (p i))
    → (i : ℕ) → i < n → q i ≡ p i
unfolding total
agree zero p q h e i l = absurd (omega arith)
agree (suc n) p q h e i l = ⊎_elim
    (λ x. ap q x ∙ last (p n) (q n) (h n) (omega (arith, wider n p q h)) ∙ ap p (sym x))
    (λ k. agree n p q h (omega (arith, implied (p n) (q n) (h n))) i k)
    (eq-or-lt_of_le (le_of_suc-le-suc l))
  where
    last : (a b : Bool) → (T a → T b) → one_if b ≤ one_if a → b ≡ a
    last true true f h = refl
    last true false f h = absurd (f tt)
    last false true f h = absurd (omega arith)
    last false false f h = refl

-- ---- the meaning's loops that count
-- a loop that counts is a sum of ones
pub counted : (p : ℕ → Bool) (n : ℕ) → up (λ c i. cond (p c) (i + 1) i) n 0 ≡ total n (λ j. keep_n (p j) 1)
unfolding up total
counted p zero = refl
counted p (suc n) = go (p n) (counted p n)
  where
    go : (b : Bool) → up (λ c i. cond (p c) (i + 1) i) n 0 ≡ total n (λ j. keep_n (p j) 1)
        → cond b (up (λ c i. cond (p c) (i + 1) i) n 0 + 1) (up (λ c i. cond (p c) (i + 1) i) n 0) ≡ total n (λ j. keep_n (p j) 1) + keep_n b 1
    go true e = omega (arith, e)
    go false e = omega (arith, e)

-- where the count is not 0, some cell passes
pub some_counted : (p : ℕ → Bool) (n : ℕ) → (up (λ c i. cond (p c) (i + 1) i) n 0 ≡ 0 → ⊥) → (j : ℕ) × (j < n) × T (p j)
unfolding up
some_counted p zero h = absurd (h refl)
some_counted p (suc n) h = go (p n) (λ t. t) (λ f. some_counted p n f) h
  where
    go : (b : Bool) → (T b → T (p n)) → ((up (λ c i. cond (p c) (i + 1) i) n 0 ≡ 0 → ⊥) → (j : ℕ) × (j < n) × T (p j))
        → (cond b (up (λ c i. cond (p c) (i + 1) i) n 0 + 1) (up (λ c i. cond (p c) (i + 1) i) n 0) ≡ 0 → ⊥) → (j : ℕ) × (j < suc n) × T (p j)
    go true f rec h = (n, omega arith, f tt)
    go false f rec h = let r = rec h in (r.0, omega (arith, r.1), r.2)

-- ---- how many elements pass a test: what is counted on from d is at least d, and more where one passes
grows : (b : Bool) (d : ℕ) → d ≤ cond b (d + 1) d
grows true d = omega arith
grows false d = omega arith

over_least : (p : ℕ → Bool) (l : List ℕ) (d : ℕ) → d ≤ over p (λ j d. d + 1) l d
unfolding over
over_least p [] d = omega arith
over_least p (x ∷ l) d = omega (arith, over_least p l (cond (p x) (d + 1) d), grows (p x) d)

pub over_more : (p : ℕ → Bool) (l : List ℕ) (d j : ℕ) → Memᴰ j l → p j ≡ true → suc d ≤ over p (λ j d. d + 1) l d
unfolding over
over_more p [] d j m e = absurd (Memᴰ.not-nil m)
over_more p (x ∷ l) d j m e = ⊎_elim
    (λ q. let f : p x ≡ true = ap p (sym q) ∙ e in rw f (omega (arith, over_least p l (d + 1))))
    (λ r. omega (arith, over_more p l (cond (p x) (d + 1) d) j r e, grows (p x) d))
    (Memᴰ.cases_cons m)

-- ---- how many of the cells 0 to n - 1 pass a test: no more than n, and fewer where one does not
at_most : (b : Bool) (d : ℕ) → cond b (d + 1) d ≤ d + 1
at_most true d = omega arith
at_most false d = omega arith

pub counted_le : (p : ℕ → Bool) (n : ℕ) → up (λ c i. cond (p c) (i + 1) i) n 0 ≤ n
unfolding up
counted_le p zero = omega arith
counted_le p (suc n) = omega (arith, counted_le p n, at_most (p n) (up (λ c i. cond (p c) (i + 1) i) n 0))

pub counted_lt : (p : ℕ → Bool) (n j : ℕ) → j < n → p j ≡ false → up (λ c i. cond (p c) (i + 1) i) n 0 < n
unfolding up
counted_lt p zero j h e = absurd (omega arith)
counted_lt p (suc n) j h e = ⊎_elim
    (λ q. let f : p n ≡ false = ap p (sym q) ∙ e in rw f (omega (arith, counted_le p n)))
    (λ r. omega (arith, counted_lt p n j r e, at_most (p n) (up (λ c i. cond (p c) (i + 1) i) n 0)))
    (eq-or-lt_of_le (le_of_suc-le-suc h))
