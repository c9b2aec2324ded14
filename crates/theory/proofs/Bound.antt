-- The bound. Cells are 0, .., n - 1; `w i j` counts the links between i and j, and is symmetric. Assumes nothing.
use mathlib.Core.Path.{◌≡◌, refl, sym, ap, ◌∙◌}
use mathlib.Core.Logic.{⊎_elim}
use mathlib.Core.Bool.{Bool, true, false, not, ◌&&◌}
use Prim.Native.Nat.{ℕ, zero, suc, ◌<◌, ◌≤◌}
use native.Mathlib.Nat.{mul-le-mul_left}
use native.Mathlib.Omega.{arith}
use lib.Dec.{T, leb, le→leb}
use lib.IntN.{ℤ, pos, negsuc, nat_abs}
use lib.Signed.{◌≤ℤ◌, ◌<ℤ◌, ≤ℤ_refl, lt_z, lt_z_yes, lt_z_no, clash_ℤ}
use Rattle.laws.proofs.Bools.{split, and_l, and_r, and_in, and_no, no_and}
use Rattle.laws.specs.Whole.{◌+ᶻ◌, ◌-ᶻ◌, ◌*ᶻ◌, neg}
use Rattle.laws.proofs.Zed.{at, lin, z_eq, z_le, le_of_both, lt_of_both}
use Rattle.laws.proofs.Sums.{sum, sum_cong, sum_mono, sum_zero, sum_add, sum_nonneg, sum_one, anti}

-- ---- ℤ: what the proof uses
pub ≤ℤ-trans : {a b c : ℤ} → a ≤ℤ b → b ≤ℤ c → a ≤ℤ c
≤ℤ-trans {a} {b} {c} h k = let A = at a in let B = at b in let C = at c in z_le (search lin) (omega (arith, le_of_both (search lin) h, le_of_both (search lin) k))

times_nonneg : (w : ℕ) (d : ℤ) → pos 0 ≤ℤ d → pos 0 ≤ℤ pos w *ᶻ d
times_nonneg w d h = let D = at d in z_le (search lin) (omega (arith, mul-le-mul_left w (le_of_both (search lin) h)))

times_ge : (w : ℕ) (d : ℤ) → 1 ≤ w → pos 0 ≤ℤ d → d ≤ℤ pos w *ᶻ d
times_ge zero d l h = absurd (omega arith)
times_ge (suc w) d l h = let D = at d in z_le (search lin) (omega (arith, mul-le-mul_left w (le_of_both (search lin) h)))

sub_nonneg : {a b : ℤ} → b ≤ℤ a → pos 0 ≤ℤ a -ᶻ b
sub_nonneg {a} {b} h = let A = at a in let B = at b in z_le (search lin) (omega (arith, le_of_both (search lin) h))

-- ---- a part of a sum
abbrev pub keep : Bool → ℤ → ℤ
keep true z = z
keep false z = pos 0

keep_sum : (b : Bool) (n : ℕ) (f : ℕ → ℤ) → keep b (sum n f) ≡ sum n (λ j. keep b (f j))
keep_sum true n f = refl
keep_sum false n f = sym (sum_zero n)

keep_split : (b c : Bool) (z : ℤ) → keep b z ≡ keep b (keep c z) +ᶻ keep b (keep (not c) z)
keep_split true true z = let Z = at z in z_eq (search lin) (omega arith)
keep_split true false z = let Z = at z in z_eq (search lin) (omega arith)
keep_split false c z = z_eq (search lin) (omega arith)

keep_anti : (b c : Bool) (x y : ℤ) → x ≡ neg y → keep b (keep c x) ≡ neg (keep c (keep b y))
keep_anti true true x y h = h
keep_anti true false x y h = z_eq (search lin) (omega arith)
keep_anti false true x y h = z_eq (search lin) (omega arith)
keep_anti false false x y h = z_eq (search lin) (omega arith)

-- ---- the operator
unfoldable pub lap : ℕ → (ℕ → ℕ → ℕ) → (ℕ → ℤ) → ℕ → ℤ
lap n w u i = sum n (λ j. pos (w i j) *ᶻ (u i -ᶻ u j))

pub flip : (v w : ℕ) (a b : ℤ) → v ≡ w → pos v *ᶻ (a -ᶻ b) ≡ neg (pos w *ᶻ (b -ᶻ a))
flip v w a b e = rw e (let A = at a in let B = at b in z_eq (search lin) (omega arith))

module _ (n : ℕ) (w : ℕ → ℕ → ℕ) (w-sym : (i j : ℕ) → i < n → j < n → w i j ≡ w j i) (c : ℕ → Bool) (e : ℕ → ℤ) where
  -- what flows out of the set c: the pairs inside it cancel
  pub flux : sum n (λ i. keep (c i) (lap n w e i)) ≡ sum n (λ i. sum n (λ j. keep (c i) (keep (not (c j)) (pos (w i j) *ᶻ (e i -ᶻ e j)))))
  unfolding lap
  flux =
      sum_cong n (λ i. keep (c i) (lap n w e i)) (λ i. sum n (λ j. inner i j) +ᶻ sum n (λ j. outer i j)) (λ i l.
      keep_sum (c i) n (λ j. pos (w i j) *ᶻ (e i -ᶻ e j))
      ∙ sum_cong n (λ j. keep (c i) (pos (w i j) *ᶻ (e i -ᶻ e j))) (λ j. inner i j +ᶻ outer i j) (λ j k. keep_split (c i) (c j) (pos (w i j) *ᶻ (e i -ᶻ e j)))
      ∙ sum_add n (inner i) (outer i))
      ∙ sum_add n (λ i. sum n (λ j. inner i j)) (λ i. sum n (λ j. outer i j))
      ∙ ap (λ x. x +ᶻ sum n (λ i. sum n (λ j. outer i j))) (anti n inner (λ i j l k. keep_anti (c i) (c j) (pos (w i j) *ᶻ (e i -ᶻ e j)) (pos (w j i) *ᶻ (e j -ᶻ e i)) (flip (w i j) (w j i) (e i) (e j) (w-sym i j l k))))
      ∙ add_zero (sum n (λ i. sum n (λ j. outer i j)))
    where
      inner : ℕ → ℕ → ℤ
      inner i j = keep (c i) (keep (c j) (pos (w i j) *ᶻ (e i -ᶻ e j)))

      outer : ℕ → ℕ → ℤ
      outer i j = keep (c i) (keep (not (c j)) (pos (w i j) *ᶻ (e i -ᶻ e j)))

      add_zero : (x : ℤ) → pos 0 +ᶻ x ≡ x
      add_zero x = let X = at x in z_eq (search lin) (omega arith)

  outer_nonneg : (down : (i j : ℕ) → i < n → j < n → T (c i) → T (not (c j)) → 1 ≤ w i j → e j ≤ℤ e i) (i j : ℕ) → i < n → j < n → pos 0 ≤ℤ keep (c i) (keep (not (c j)) (pos (w i j) *ᶻ (e i -ᶻ e j)))
  outer_nonneg down i j l k = go (c i) (not (c j)) (w i j) (down i j l k)
    where
      go : (b d : Bool) (v : ℕ) → (T b → T d → 1 ≤ v → e j ≤ℤ e i) → pos 0 ≤ℤ keep b (keep d (pos v *ᶻ (e i -ᶻ e j)))
      go true true zero f = let A = at (e i) in let B = at (e j) in z_le (search lin) (omega arith)
      go true true (suc v) f = times_nonneg (suc v) (e i -ᶻ e j) (sub_nonneg (f tt tt (omega arith)))
      go true false v f = ≤ℤ_refl (pos 0)
      go false d v f = ≤ℤ_refl (pos 0)

  -- a step out of the set drops by at most what flows out of it
  drop : (down : (i j : ℕ) → i < n → j < n → T (c i) → T (not (c j)) → 1 ≤ w i j → e j ≤ℤ e i) (i j : ℕ) → i < n → j < n → T (c i) → T (not (c j)) → 1 ≤ w i j
      → e i -ᶻ e j ≤ℤ sum n (λ i. keep (c i) (lap n w e i))
  drop down i j l k ti tj h = rw flux (≤ℤ-trans (go (c i) (not (c j)) ti tj) (≤ℤ-trans
      (sum_one n (λ j. keep (c i) (keep (not (c j)) (pos (w i j) *ᶻ (e i -ᶻ e j)))) (λ j k. outer_nonneg down i j l k) j k)
      (sum_one n (λ i. sum n (λ j. keep (c i) (keep (not (c j)) (pos (w i j) *ᶻ (e i -ᶻ e j)))))
      (λ i l. sum_nonneg n (λ j. keep (c i) (keep (not (c j)) (pos (w i j) *ᶻ (e i -ᶻ e j)))) (λ j k. outer_nonneg down i j l k)) i l)))
    where
      go : (b d : Bool) → T b → T d → e i -ᶻ e j ≤ℤ keep b (keep d (pos (w i j) *ᶻ (e i -ᶻ e j)))
      go true true t u = times_ge (w i j) (e i -ᶻ e j) h (sub_nonneg (down i j l k ti tj h))
      go true false t u = absurd u
      go false d t u = absurd t

-- ---- one step, and a walk
abbrev pub size : ℤ → ℤ
size z = pos (nat_abs z)

le_size : (z : ℤ) → z ≤ℤ size z
le_size (pos n) = ≤ℤ_refl (pos n)
le_size (negsuc n) = record { le = tt }

-- `Way i k`: from i of the region k steps along links through the region, the last of which leaves it
pub data Way (n : ℕ) (w : ℕ → ℕ → ℕ) (G : ℕ → Bool) : ℕ → ℕ → Type 0 where
  leave : {i j : ℕ} → i < n → j < n → T (G i) → T (not (G j)) → 1 ≤ w i j → Way n w G i 1
  step : {i j k : ℕ} → i < n → j < n → T (G i) → T (G j) → 1 ≤ w i j → Way n w G j k → Way n w G i (suc k)

le_no_lt : (a b : ℤ) → b ≤ℤ a → T (not (lt_z a b))
le_no_lt a b h = split (lt_z a b) (λ t. clash_ℤ (lt_z_yes {a = a} {b = b} t) h) (λ t. t)

keep_le : (b g : Bool) (z : ℤ) → (T b → T g) → keep b z ≤ℤ keep g (size z)
keep_le true true z f = le_size z
keep_le true false z f = absurd (f tt)
keep_le false true z f = record { le = le0 (nat_abs z) }
  where
    le0 : (k : ℕ) → T (leb 0 k)
    le0 k = le→leb 0 k (omega arith)
keep_le false false z f = ≤ℤ_refl (pos 0)

keep_size_nonneg : (g : Bool) (z : ℤ) → pos 0 ≤ℤ keep g (size z)
keep_size_nonneg g z = keep_le false g z (λ t. absurd t)

module _ (n : ℕ) (w : ℕ → ℕ → ℕ) (w-sym : (i j : ℕ) → i < n → j < n → w i j ≡ w j i) (G : ℕ → Bool) (e : ℕ → ℤ)
    (edge : (i j : ℕ) → i < n → j < n → T (G i) → T (not (G j)) → 1 ≤ w i j → e j ≤ℤ pos 0) where
  unfoldable pub spread : ℤ
  spread = sum n (λ i. keep (G i) (size (lap n w e i)))

  spread_nonneg : pos 0 ≤ℤ spread
  unfolding spread
  spread_nonneg = sum_nonneg n (λ i. keep (G i) (size (lap n w e i))) (λ i l. keep_size_nonneg (G i) (lap n w e i))

  one_step : (i j : ℕ) → i < n → j < n → T (G i) → 1 ≤ w i j → (t : ℤ) → pos 0 ≤ℤ t → e j ≤ℤ t → e i ≤ℤ t +ᶻ spread
  unfolding spread
  one_step i j l k g h t t0 jt = split (lt_z t (e i)) above (λ u. under (lt_z_no {a = t} {b = e i} u))
    where
      c : ℕ → Bool
      c x = G x && lt_z t (e x)

      S : ℤ
      S = sum n (λ i. keep (G i) (size (lap n w e i)))

      under : e i ≤ℤ t → e i ≤ℤ t +ᶻ S
      under u = let E = at (e i) in let R = at S in let T' = at t in z_le (search lin) (omega (arith, le_of_both (search lin) u, le_of_both (search lin) spread_nonneg))

      down : (i j : ℕ) → i < n → j < n → T (c i) → T (not (c j)) → 1 ≤ w i j → e j ≤ℤ e i
      down i j l k ti tj h = let E = at (e i) in let F = at (e j) in let T' = at t in
          let hi : t <ℤ e i = lt_z_yes (and_r (G i) (lt_z t (e i)) ti) in
          let hj : e j ≤ℤ t = ⊎_elim (λ o. ≤ℤ-trans (edge i j l k (and_l (G i) (lt_z t (e i)) ti) o h) t0) (λ o. lt_z_no {a = t} {b = e j} o) (and_no (G j) (lt_z t (e j)) tj) in
          z_le (search lin) (omega (arith, lt_of_both (search lin) hi, le_of_both (search lin) hj))

      above : T (lt_z t (e i)) → e i ≤ℤ t +ᶻ S
      above u = let E = at (e i) in let F = at (e j) in let T' = at t in let R = at S in
          let d : e i -ᶻ e j ≤ℤ S = ≤ℤ-trans
          (drop n w w-sym c e down i j l k (and_in (G i) (lt_z t (e i)) g u) (no_and (G j) (lt_z t (e j)) (le_no_lt t (e j) jt)) h)
          (sum_mono n (λ i. keep (c i) (lap n w e i)) (λ i. keep (G i) (size (lap n w e i))) (λ i l. keep_le (c i) (G i) (lap n w e i) (λ t'. and_l (G i) (lt_z t (e i)) t'))) in
          z_le (search lin) (omega (arith, le_of_both (search lin) d, le_of_both (search lin) jt))

  pub by_way : {i k : ℕ} → Way n w G i k → e i ≤ℤ pos k *ᶻ spread
  by_way (leave {i = i} {j = j} l m g o h) = ≤ℤ-trans (one_step i j l m g h (pos 0) (≤ℤ_refl (pos 0)) (edge i j l m g o h)) (once spread)
    where
      once : (x : ℤ) → pos 0 +ᶻ x ≤ℤ pos 1 *ᶻ x
      once x = let X = at x in z_le (search lin) (omega arith)
  by_way (step {i = i} {j = j} {k = k} l m g g' h r) =
      ≤ℤ-trans (one_step i j l m g h (pos k *ᶻ spread) (times_nonneg k spread spread_nonneg) (by_way r)) (more k spread)
    where
      more : (k : ℕ) (x : ℤ) → pos k *ᶻ x +ᶻ x ≤ℤ pos (suc k) *ᶻ x
      more k x = let X = at x in z_le (search lin) (omega arith)
