-- Sums of integers over 0, .., n - 1: equal and larger terms, sums of sums, a factor, a negation, the exchange of two
-- sums, one term of a sum that has no negative term, and `anti`: a sum over all pairs of a quantity that changes its
-- sign with the pair's order is 0. Assumes nothing.
use mathlib.Core.Path.{◌≡◌, refl, sym, ap, ap₂, ◌∙◌}
use mathlib.Core.Logic.{⊎_elim}
use Prim.Native.Nat.{ℕ, zero, suc, ◌<◌}
use native.Mathlib.Nat.{eq-or-lt_of_le, le_of_suc-le-suc}
use native.Mathlib.Omega.{arith}
use lib.IntN.{ℤ, pos}
use lib.Signed.{◌≤ℤ◌, ≤ℤ_refl}
use Rattle.laws.specs.Whole.{◌+ᶻ◌, ◌-ᶻ◌, ◌*ᶻ◌, neg}
use Rattle.laws.proofs.Zed.{at, lin, z_eq, z_le, eq_z, le_of_both}

-- ---- laws of ℤ that the sums use
pub swap4 : (a b c d : ℤ) → (a +ᶻ b) +ᶻ (c +ᶻ d) ≡ (a +ᶻ c) +ᶻ (b +ᶻ d)
swap4 a b c d = let A = at a in let B = at b in let C = at c in let D = at d in z_eq (search lin) (omega arith)

pub scale_add : (c a b : ℤ) → c *ᶻ a +ᶻ c *ᶻ b ≡ c *ᶻ (a +ᶻ b)
scale_add c a b = let A = at a in let B = at b in let C = at c in z_eq (search lin) (omega arith)

pub scale_zero : (c : ℤ) → c *ᶻ pos 0 ≡ pos 0
scale_zero c = let C = at c in z_eq (search lin) (omega arith)

pub neg_add : (a b : ℤ) → neg a +ᶻ neg b ≡ neg (a +ᶻ b)
neg_add a b = let A = at a in let B = at b in z_eq (search lin) (omega arith)

pub neg_zero : neg (pos 0) ≡ pos 0
neg_zero = z_eq (search lin) (omega arith)

pub zero_zero : pos 0 +ᶻ pos 0 ≡ pos 0
zero_zero = z_eq (search lin) (omega arith)

pub add_le : {a b c d : ℤ} → a ≤ℤ b → c ≤ℤ d → a +ᶻ c ≤ℤ b +ᶻ d
add_le {a} {b} {c} {d} h k =
    let A = at a in let B = at b in let C = at c in let D = at d in z_le (search lin) (omega (arith, le_of_both (search lin) h, le_of_both (search lin) k))

-- ---- the sum
unfoldable pub sum : ℕ → (ℕ → ℤ) → ℤ
sum zero f = pos 0
sum (suc n) f = sum n f +ᶻ f n

below : {i n : ℕ} → i < n → i < suc n
below h = omega arith

pub sum_cong : (n : ℕ) (f g : ℕ → ℤ) → ((i : ℕ) → i < n → f i ≡ g i) → sum n f ≡ sum n g
unfolding sum
sum_cong zero f g h = refl
sum_cong (suc n) f g h = ap₂ ◌+ᶻ◌ (sum_cong n f g (λ i l. h i (below l))) (h n (omega arith))

pub sum_mono : (n : ℕ) (f g : ℕ → ℤ) → ((i : ℕ) → i < n → f i ≤ℤ g i) → sum n f ≤ℤ sum n g
unfolding sum
sum_mono zero f g h = ≤ℤ_refl (pos 0)
sum_mono (suc n) f g h = add_le (sum_mono n f g (λ i l. h i (below l))) (h n (omega arith))

pub sum_zero : (n : ℕ) → sum n (λ i. pos 0) ≡ pos 0
unfolding sum
sum_zero zero = refl
sum_zero (suc n) = rw (sum_zero n) zero_zero

pub sum_add : (n : ℕ) (f g : ℕ → ℤ) → sum n (λ i. f i +ᶻ g i) ≡ sum n f +ᶻ sum n g
unfolding sum
sum_add zero f g = sym zero_zero
sum_add (suc n) f g = rw (sum_add n f g) (swap4 (sum n f) (sum n g) (f n) (g n))

pub sum_neg : (n : ℕ) (f : ℕ → ℤ) → sum n (λ i. neg (f i)) ≡ neg (sum n f)
unfolding sum
sum_neg zero f = sym neg_zero
sum_neg (suc n) f = rw (sum_neg n f) (neg_add (sum n f) (f n))

pub sum_sub : (n : ℕ) (f g : ℕ → ℤ) → sum n (λ i. f i -ᶻ g i) ≡ sum n f -ᶻ sum n g
sum_sub n f g = sum_add n f (λ i. neg (g i)) ∙ ap (λ x. sum n f +ᶻ x) (sum_neg n g)

pub sum_scale : (n : ℕ) (c : ℤ) (f : ℕ → ℤ) → sum n (λ i. c *ᶻ f i) ≡ c *ᶻ sum n f
unfolding sum
sum_scale zero c f = sym (scale_zero c)
sum_scale (suc n) c f = rw (sum_scale n c f) (scale_add c (sum n f) (f n))

pub sum_swap : (n k : ℕ) (f : ℕ → ℕ → ℤ) → sum n (λ i. sum k (λ j. f i j)) ≡ sum k (λ j. sum n (λ i. f i j))
unfolding sum
sum_swap zero k f = sym (sum_zero k)
sum_swap (suc n) k f = rw (sum_swap n k f) (sym (sum_add k (λ j. sum n (λ i. f i j)) (λ j. f n j)))

pub sum_nonneg : (n : ℕ) (f : ℕ → ℤ) → ((i : ℕ) → i < n → pos 0 ≤ℤ f i) → pos 0 ≤ℤ sum n f
sum_nonneg n f h = rw (sum_zero n) at (sum_mono n (λ i. pos 0) f h)

one_of : (a b x : ℤ) → pos 0 ≤ℤ a → x ≤ℤ b → x ≤ℤ a +ᶻ b
one_of a b x h k = let A = at a in let B = at b in let X = at x in z_le (search lin) (omega (arith, le_of_both (search lin) h, le_of_both (search lin) k))

one_of' : (a b x : ℤ) → x ≤ℤ a → pos 0 ≤ℤ b → x ≤ℤ a +ᶻ b
one_of' a b x h k = let A = at a in let B = at b in let X = at x in z_le (search lin) (omega (arith, le_of_both (search lin) h, le_of_both (search lin) k))

-- a term of a sum with no negative term is at most the sum
pub sum_one : (n : ℕ) (f : ℕ → ℤ) → ((i : ℕ) → i < n → pos 0 ≤ℤ f i) → (i : ℕ) → i < n → f i ≤ℤ sum n f
unfolding sum
sum_one zero f h i l = absurd (omega arith)
sum_one (suc n) f h i l = ⊎_elim
    (λ e. one_of (sum n f) (f n) (f i) (sum_nonneg n f (λ j k. h j (below k))) (rw e (≤ℤ_refl (f n))))
    (λ k. one_of' (sum n f) (f n) (f i) (sum_one n f (λ j k. h j (below k)) i k) (h n (omega arith)))
    (eq-or-lt_of_le (le_of_suc-le-suc l))

own_neg : (a : ℤ) → a ≡ neg a → a ≡ pos 0
own_neg a h = let A = at a in z_eq (search lin) (omega (arith, eq_z (search lin) h))

-- THE KEY: over all pairs, a quantity that changes its sign with the order of the pair sums to 0
pub anti : (n : ℕ) (f : ℕ → ℕ → ℤ) → ((i j : ℕ) → i < n → j < n → f i j ≡ neg (f j i)) → sum n (λ i. sum n (λ j. f i j)) ≡ pos 0
anti n f h = own_neg (sum n (λ i. sum n (λ j. f i j)))
    (sum_cong n (λ i. sum n (λ j. f i j)) (λ i. neg (sum n (λ j. f j i)))
    (λ i l. sum_cong n (λ j. f i j) (λ j. neg (f j i)) (λ j k. h i j l k) ∙ sum_neg n (λ j. f j i))
    ∙ sum_neg n (λ i. sum n (λ j. f j i))
    ∙ ap neg (sum_swap n n (λ i j. f j i)))
