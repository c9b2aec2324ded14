-- How far pressures that leave residuals are from those that leave none, over a region of cells. Assumes nothing.
use mathlib.Core.Path.{◌≡◌, refl, ap, ◌∙◌}
use mathlib.Core.Bool.{Bool, true, false, not}
use Prim.Native.Nat.{ℕ, zero, suc, ◌*◌, ◌<◌, ◌≤◌}
use native.Mathlib.Nat.{mul-le-mul_left, mul-le-mul_right, le_trans}
use native.Mathlib.Omega.{arith}
use lib.Dec.{T}
use lib.IntN.{ℤ, pos, nat_abs}
use lib.Signed.{◌≤ℤ◌}
use Rattle.laws.specs.Whole.{◌-ᶻ◌, ◌*ᶻ◌, neg}
use Rattle.laws.proofs.Zed.{at, lin, z_eq, z_le, abs_neg, abs_times, abs_le}
use Rattle.laws.proofs.Sums.{sum, sum_cong, sum_neg, sum_sub, sum_scale}
use Rattle.theory.specs.Totals.{total}
use Rattle.theory.proofs.Bound.{lap, keep, size, Way, spread, by_way, ≤ℤ-trans}

-- ---- sums of naturals
abbrev pub keep_n : Bool → ℕ → ℕ
keep_n true k = k
keep_n false k = 0

pub sum_pos : (n : ℕ) (f : ℕ → ℕ) → sum n (λ i. pos (f i)) ≡ pos (total n f)
unfolding sum total
sum_pos zero f = refl
sum_pos (suc n) f = rw (sum_pos n f) (z_eq (search lin) (omega arith))

keep_pos : (b : Bool) (k : ℕ) → keep b (pos k) ≡ pos (keep_n b k)
keep_pos true k = refl
keep_pos false k = refl

keep_n_times : (b : Bool) (m k : ℕ) → keep_n b (m * k) ≡ m * keep_n b k
keep_n_times true m k = refl
keep_n_times false m k = omega arith

pub total_times : (n m : ℕ) (f : ℕ → ℕ) → total n (λ i. m * f i) ≡ m * total n f
unfolding total
total_times zero m f = omega arith
total_times (suc n) m f = omega (arith, total_times n m f)

pub total_cong : (n : ℕ) (f g : ℕ → ℕ) → ((i : ℕ) → i < n → f i ≡ g i) → total n f ≡ total n g
unfolding total
total_cong zero f g h = refl
total_cong (suc n) f g h = omega (arith, total_cong n f g (λ i l. h i (omega arith)), h n (omega arith))

pub total_le : (n : ℕ) (f g : ℕ → ℕ) → ((i : ℕ) → i < n → f i ≤ g i) → total n f ≤ total n g
unfolding total
total_le zero f g h = omega arith
total_le (suc n) f g h = omega (arith, total_le n f g (λ i l. h i (omega arith)), h n (omega arith))

-- ---- the operator is linear
pub lap_lin : (n : ℕ) (w : ℕ → ℕ → ℕ) (m : ℕ) (u v : ℕ → ℤ) (i : ℕ) → lap n w (λ i. pos m *ᶻ u i -ᶻ v i) i ≡ pos m *ᶻ lap n w u i -ᶻ lap n w v i
unfolding lap
lap_lin n w m u v i =
    sum_cong n (λ j. pos (w i j) *ᶻ ((pos m *ᶻ u i -ᶻ v i) -ᶻ (pos m *ᶻ u j -ᶻ v j))) (λ j. pos m *ᶻ (pos (w i j) *ᶻ (u i -ᶻ u j)) -ᶻ pos (w i j) *ᶻ (v i -ᶻ v j))
    (λ j k. term (w i j) (u i) (u j) (v i) (v j))
    ∙ sum_sub n (λ j. pos m *ᶻ (pos (w i j) *ᶻ (u i -ᶻ u j))) (λ j. pos (w i j) *ᶻ (v i -ᶻ v j))
    ∙ ap (λ x. x -ᶻ sum n (λ j. pos (w i j) *ᶻ (v i -ᶻ v j))) (sum_scale n (pos m) (λ j. pos (w i j) *ᶻ (u i -ᶻ u j)))
  where
    term : (q : ℕ) (a b c d : ℤ) → pos q *ᶻ ((pos m *ᶻ a -ᶻ c) -ᶻ (pos m *ᶻ b -ᶻ d)) ≡ pos m *ᶻ (pos q *ᶻ (a -ᶻ b)) -ᶻ pos q *ᶻ (c -ᶻ d)
    term q a b c d = let A = at a in let B = at b in let C = at c in let D = at d in z_eq (search lin depth 9) (omega arith)

pub lap_neg : (n : ℕ) (w : ℕ → ℕ → ℕ) (u : ℕ → ℤ) (i : ℕ) → lap n w (λ i. neg (u i)) i ≡ neg (lap n w u i)
unfolding lap
lap_neg n w u i =
    sum_cong n (λ j. pos (w i j) *ᶻ (neg (u i) -ᶻ neg (u j))) (λ j. neg (pos (w i j) *ᶻ (u i -ᶻ u j))) (λ j k. term (w i j) (u i) (u j))
    ∙ sum_neg n (λ j. pos (w i j) *ᶻ (u i -ᶻ u j))
  where
    term : (q : ℕ) (a b : ℤ) → pos q *ᶻ (neg a -ᶻ neg b) ≡ neg (pos q *ᶻ (a -ᶻ b))
    term q a b = let A = at a in let B = at b in z_eq (search lin depth 9) (omega arith)

-- ---- THE BOUND
unfoldable pub resid : ℕ → (ℕ → ℕ → ℕ) → (ℕ → ℤ) → (ℕ → ℤ) → ℕ → ℤ
resid n w s p i = s i -ᶻ lap n w p i

-- the sum of the sizes of the residuals over the region
unfoldable pub worth : ℕ → (ℕ → ℕ → ℕ) → (ℕ → Bool) → (ℕ → ℤ) → (ℕ → ℤ) → ℕ
worth n w G s p = total n (λ j. keep_n (G j) (nat_abs (resid n w s p j)))

module _ (n : ℕ) (w : ℕ → ℕ → ℕ) (w-sym : (i j : ℕ) → i < n → j < n → w i j ≡ w j i) (G : ℕ → Bool) (s p y : ℕ → ℤ) (m : ℕ)
    (exact : (i : ℕ) → i < n → T (G i) → pos m *ᶻ s i ≡ lap n w y i)
    (edge : (i j : ℕ) → i < n → j < n → T (G i) → T (not (G j)) → 1 ≤ w i j → pos m *ᶻ p j ≡ y j) where
  -- for the difference, and for its negation
  part : (e : ℕ → ℤ) → ((i : ℕ) → i < n → T (G i) → nat_abs (lap n w e i) ≡ m * nat_abs (resid n w s p i))
      → ((i j : ℕ) → i < n → j < n → T (G i) → T (not (G j)) → 1 ≤ w i j → e j ≤ℤ pos 0)
      → {i k : ℕ} → Way n w G i k → e i ≤ℤ pos (k * (m * worth n w G s p))
  unfolding spread worth
  part e he edge' {i} {k} r = ≤ℤ-trans (by_way n w w-sym G e edge' r) (rw spread_is (z_le (search lin) (omega arith)))
    where
      one : (b : Bool) (x : ℤ) (y : ℕ) → (T b → nat_abs x ≡ m * y) → keep b (size x) ≡ pos (m * keep_n b y)
      one true x y h = ap pos (h tt)
      one false x y h = ap pos (omega arith)

      spread_is : sum n (λ i. keep (G i) (size (lap n w e i))) ≡ pos (m * total n (λ j. keep_n (G j) (nat_abs (resid n w s p j))))
      spread_is =
          sum_cong n (λ i. keep (G i) (size (lap n w e i))) (λ i. pos (m * keep_n (G i) (nat_abs (resid n w s p i)))) (λ i l. one (G i) (lap n w e i) (nat_abs (resid n w s p i)) (he i l))
          ∙ sum_pos n (λ i. m * keep_n (G i) (nat_abs (resid n w s p i)))
          ∙ ap pos (total_times n m (λ i. keep_n (G i) (nat_abs (resid n w s p i))))

  pub region_bound : {i k : ℕ} → Way n w G i k → nat_abs (pos m *ᶻ p i -ᶻ y i) ≤ k * (m * worth n w G s p)
  unfolding resid
  region_bound {i} {k} r = abs_le (d i) (k * (m * worth n w G s p))
      (part d size_is (λ i j l k g o h. rw (edge i j l k g o h) (self (y j))) r)
      (part (λ i. neg (d i)) (λ i l g. ap nat_abs (lap_neg n w d i) ∙ abs_neg (lap n w d i) ∙ size_is i l g) (λ i j l k g o h. rw (edge i j l k g o h) (self' (y j))) r)
    where
      d : ℕ → ℤ
      d i = pos m *ᶻ p i -ᶻ y i

      self : (x : ℤ) → x -ᶻ x ≤ℤ pos 0
      self x = let X = at x in z_le (search lin) (omega arith)

      self' : (x : ℤ) → neg (x -ᶻ x) ≤ℤ pos 0
      self' x = let X = at x in z_le (search lin) (omega arith)

      turn : (a b : ℤ) → pos m *ᶻ a -ᶻ pos m *ᶻ b ≡ neg (pos m *ᶻ (b -ᶻ a))
      turn a b = let A = at a in let B = at b in z_eq (search lin) (omega arith)

      lap_is : (i : ℕ) → i < n → T (G i) → lap n w d i ≡ neg (pos m *ᶻ (s i -ᶻ lap n w p i))
      lap_is i l g = lap_lin n w m p y i ∙ rw (← exact i l g) (turn (lap n w p i) (s i))

      size_is : (i : ℕ) → i < n → T (G i) → nat_abs (lap n w d i) ≡ m * nat_abs (s i -ᶻ lap n w p i)
      size_is i l g = ap nat_abs (lap_is i l g) ∙ abs_neg (pos m *ᶻ (s i -ᶻ lap n w p i)) ∙ abs_times m (s i -ᶻ lap n w p i)

  -- with a bound on the walk's length, as the paper says it
  pub region_bound_d : (D : ℕ) {i k : ℕ} → Way n w G i k → k ≤ D → nat_abs (pos m *ᶻ p i -ᶻ y i) ≤ m * worth n w G s p * D
  region_bound_d D {i} {k} r h = omega (arith, region_bound r, mul-le-mul_right (m * worth n w G s p) h)

  -- with the greatest size and the number of cells in place of the sum
  pub region_bound_wn : (D W : ℕ) → ((i : ℕ) → i < n → T (G i) → nat_abs (resid n w s p i) ≤ W)
      → {i k : ℕ} → Way n w G i k → k ≤ D → nat_abs (pos m *ᶻ p i -ᶻ y i) ≤ m * W * total n (λ j. keep_n (G j) 1) * D
  unfolding worth
  region_bound_wn D W hW {i} {k} r h = le_trans (region_bound_d D r h) (omega (arith, mul-le-mul_right D (mul-le-mul_left m few)))
    where
      one : (b : Bool) (x : ℕ) → (T b → x ≤ W) → keep_n b x ≤ W * keep_n b 1
      one true x h = let k : x ≤ W = h tt in omega arith
      one false x h = omega arith

      few : total n (λ j. keep_n (G j) (nat_abs (resid n w s p j))) ≤ W * total n (λ j. keep_n (G j) 1)
      few = le_trans
          (total_le n (λ j. keep_n (G j) (nat_abs (resid n w s p j))) (λ j. W * keep_n (G j) 1) (λ i l. one (G i) (nat_abs (resid n w s p i)) (hW i l)))
          (omega (arith, total_times n W (λ j. keep_n (G j) 1)))
