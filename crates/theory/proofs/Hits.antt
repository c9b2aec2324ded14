-- How often a number stands in a list of neighbours, and sums in which one place counts. Assumes nothing.
use mathlib.Core.Path.{◌≡◌, refl, sym, ap, ap₂, ◌∙◌}
use mathlib.Core.Logic.{⊎_elim}
use mathlib.Core.Bool.{Bool, true, false, not}
use mathlib.Core.List.Memᴰ
use mathlib.Core.List.{List, [], ◌∷◌, Memᴰ}
use Prim.Native.Nat.{ℕ, zero, suc, ◌+◌, ◌<◌, ◌≤◌}
use native.Mathlib.Nat.{eq-or-lt_of_le, le_of_suc-le-suc}
use native.Mathlib.Decide.{ℕ_discrete}
use native.Mathlib.Omega.{arith}
use lib.Dec.{T, ltb, eqb, ltb→lt, nltb→le}
use borrow.Author.Tests.{eq-eqb, ne_eqb}
use lib.IntN.{ℤ, pos}
use Rattle.laws.specs.Whole.{◌+ᶻ◌, ◌*ᶻ◌}
use Rattle.laws.proofs.Zed.{at, lin, z_eq}
use Rattle.laws.proofs.Sums.{sum, sum_cong, sum_zero}
use Rattle.laws.proofs.Bools.{split}
use Rattle.theory.specs.Totals.{one_if}
use Rattle.theory.proofs.Bound.{keep}

-- 1 where two numbers are equal
unfoldable pub same : ℕ → ℕ → ℕ
same x y = one_if (eqb x y)

pub same_yes : (x y : ℕ) → x ≡ y → same x y ≡ 1
unfolding same
same_yes x y e = ap one_if (eq-eqb x y e)

pub same_no : (x y : ℕ) → (x ≡ y → ⊥) → same x y ≡ 0
unfolding same
same_no x y e = ap one_if (ne_eqb x y e)

unfoldable pub hits : List ℕ → ℕ → ℕ
hits [] j = 0
hits (x ∷ l) j = same x j + hits l j

-- what is in a list is hit, and the other way round
pub mem_hits : (l : List ℕ) (j : ℕ) → Memᴰ j l → 1 ≤ hits l j
unfolding hits
mem_hits [] j m = absurd (Memᴰ.not-nil m)
mem_hits (x ∷ l) j m = ⊎_elim
    (λ e. omega (arith, same_yes x j (sym e)))
    (λ r. omega (arith, mem_hits l j r))
    (Memᴰ.cases_cons m)

pub hits_mem : (l : List ℕ) (j : ℕ) → 1 ≤ hits l j → Memᴰ j l
unfolding hits
hits_mem [] j h = absurd (omega arith)
hits_mem (x ∷ l) j h = go (ℕ_discrete x j) (λ r. hits_mem l j r)
  where
    go : Dec (x ≡ j) → (1 ≤ hits l j → Memᴰ j l) → Memᴰ j (x ∷ l)
    go (yes e) below = Memᴰ.head (sym e)
    go (no e) below = Memᴰ.tail (below (omega (arith, same_no x j e)))

-- ---- a sum in which one place counts
pub zero_times : (x : ℤ) (q : ℕ) → q ≡ 0 → pos q *ᶻ x ≡ pos 0
zero_times x q e = rw e (let X = at x in z_eq (search lin) (omega arith))

sum_none : (n x : ℕ) (f : ℕ → ℤ) → n ≤ x → sum n (λ j. pos (same x j) *ᶻ f j) ≡ pos 0
sum_none n x f h =
    sum_cong n (λ j. pos (same x j) *ᶻ f j) (λ j. pos 0) (λ j l. zero_times (f j) (same x j) (same_no x j (λ e. omega arith))) ∙ sum_zero n

sum_at : (n x : ℕ) (f : ℕ → ℤ) → x < n → sum n (λ j. pos (same x j) *ᶻ f j) ≡ f x
unfolding sum
sum_at zero x f h = absurd (omega arith)
sum_at (suc n) x f h = ⊎_elim
    (λ e. ap₂ ◌+ᶻ◌ (sum_none n x f (omega arith)) (ap (λ q. pos q *ᶻ f n) (same_yes x n e)) ∙ last (f n) ∙ ap f (sym e))
    (λ l. ap₂ ◌+ᶻ◌ (sum_at n x f l) (zero_times (f n) (same x n) (same_no x n (λ e. omega arith))) ∙ first (f x))
    (eq-or-lt_of_le (le_of_suc-le-suc h))
  where
    last : (y : ℤ) → pos 0 +ᶻ pos 1 *ᶻ y ≡ y
    last y = let Y = at y in z_eq (search lin) (omega arith)

    first : (y : ℤ) → y +ᶻ pos 0 ≡ y
    first y = let Y = at y in z_eq (search lin) (omega arith)

pub sum_delta : (n x : ℕ) (f : ℕ → ℤ) → sum n (λ j. pos (same x j) *ᶻ f j) ≡ keep (ltb x n) (f x)
sum_delta n x f = split (ltb x n) (λ t. sum_at n x f (ltb→lt x n t) ∙ sym (kept (ltb x n) t)) (λ t. sum_none n x f (nltb→le x n t) ∙ sym (lost (ltb x n) t))
  where
    kept : (b : Bool) → T b → keep b (f x) ≡ f x
    kept true t = refl
    kept false t = absurd t

    lost : (b : Bool) → T (not b) → keep b (f x) ≡ pos 0
    lost true t = absurd t
    lost false t = refl
