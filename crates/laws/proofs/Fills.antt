-- Loops on a list: steps that agree, steps that touch only the front, and loops that fill a part. Assumes nothing.
use Prim.Native.Nat.{ℕ, zero, suc, ◌+◌, ◌≤◌, ◌<◌}
use mathlib.Core.Path.{◌≡◌, refl, sym, ap, ap₂, ◌∙◌}
use mathlib.Core.List.{List, [], ◌∷◌, ◌++◌, append_assoc}
use native.Mathlib.Nat.{le_refl, le_of_suc-le-suc, not-suc-le-zero}
use native.Mathlib.Omega.{arith}
use lib.ListN.{length, get_or, set, take, drop, length-append, take-append-drop}
use lib.Seq.{drop-cons, set_at, length-take-le}
use Rattle.laws.specs.Loops.{up, down}
use Rattle.laws.specs.Lists.{tab}
use Rattle.laws.proofs.Lists.{length_tab}
use Rattle.laws.proofs.Fill.{tab_snoc}

-- ---- two loops whose steps agree below k
module _ {A : Type 0} (f h : ℕ → A → A) where
  pub down_within : (k : ℕ) (s : A) → ((i : ℕ) (a : A) → i < k → f i a ≡ h i a) → down f k s ≡ down h k s
  unfolding down
  down_within zero s e = refl
  down_within (suc k) s e = down_within k (f k s) (λ i a l. e i a (omega arith)) ∙ ap (down h k) (e k s (omega arith))

-- ---- steps that keep a list's length
module _ {A : Type 0} (step : ℕ → List A → List A) (len : (i : ℕ) (u : List A) → length (step i u) ≡ length u) where
  pub up_keeps : (k : ℕ) (u : List A) → length (up step k u) ≡ length u
  unfolding up
  up_keeps zero u = refl
  up_keeps (suc k) u = len k (up step k u) ∙ up_keeps k u

  pub down_keeps : (k : ℕ) (u : List A) → length (down step k u) ≡ length u
  unfolding down
  down_keeps zero u = refl
  down_keeps (suc k) u = down_keeps k (step k u) ∙ len k u

-- ---- steps that touch only the front of a list, n elements
module _ {A : Type 0} (big small : ℕ → List A → List A) (n : ℕ) (rest : List A)
    (len : (i : ℕ) (u : List A) → length (small i u) ≡ length u)
    (same : (i : ℕ) (u : List A) → length u ≡ n → big i (u ++ rest) ≡ small i u ++ rest) where
  pub up_front : (k : ℕ) (u : List A) → length u ≡ n → up big k (u ++ rest) ≡ up small k u ++ rest
  unfolding up
  up_front zero u e = refl
  up_front (suc k) u e = ap (big k) (up_front k u e) ∙ same k (up small k u) (up_keeps small len k u ∙ e)

  pub down_front : (k : ℕ) (u : List A) → length u ≡ n → down big k (u ++ rest) ≡ down small k u ++ rest
  unfolding down
  down_front zero u e = refl
  down_front (suc k) u e = ap (down big k) (same k u e) ∙ down_front k (small k u) (len k u ∙ e)

-- ---- tabs
module _ {A : Type 0} where
  pub tab_take : (n : ℕ) (l : List A) (d : A) → n ≤ length l → tab n (λ c. get_or l c d) ≡ take n l
  unfolding tab
  tab_take zero l d h = refl
  tab_take (suc n) [] d h = absurd (not-suc-le-zero h)
  tab_take (suc n) (a ∷ l) d h = ap (◌∷◌ a) (tab_take n l d (le_of_suc-le-suc h))

-- ---- a loop that fills the n elements from `from` on with values that none of its stores changes
module _ {A : Type 0} (step : ℕ → List A → List A) (f : ℕ → List A → A) (from n : ℕ) (s : List A)
    (is : (c : ℕ) (r : List A) → step c r ≡ set r (from + c) (f c r))
    (same : (c i : ℕ) (x : A) (r : List A) → c < n → i < n → f c (set r (from + i) x) ≡ f c r)
    (fits : from + n ≤ length s) where
  unread : (k c : ℕ) → k ≤ n → c < n → f c (up step k s) ≡ f c s
  unfolding up
  unread zero c h l = refl
  unread (suc k) c h l =
      ap (f c) (is k (up step k s)) ∙ same c k (f k (up step k s)) (up step k s) l (omega arith) ∙ unread k c (omega arith) l

  front : ℕ → List A
  front k = take from s ++ tab k (λ c. f c s)

  front_length : (k : ℕ) → length (front k) ≡ from + k
  unfolding front
  front_length k = omega (arith, length-append (take from s) (tab k (λ c. f c s)), length_tab k (λ c. f c s), length-take-le from s (omega arith))

  stored : (k : ℕ) → k < n → set (front k ++ drop (from + k) s) (from + k) (f k s) ≡ front (suc k) ++ drop (from + suc k) s
  unfolding front
  stored k h =
      let next : suc (from + k) ≡ from + suc k = omega arith in
      ap (λ r. set (front k ++ r) (from + k) (f k s)) (drop-cons s (from + k) (f k s) (omega arith))
      ∙ set_at (front k) (get_or s (from + k) (f k s)) (drop (suc (from + k)) s) (f k s) (from + k) (front_length k)
      ∙ ap (λ m. front k ++ (f k s ∷ drop m s)) next
      ∙ rw (tab_snoc k (λ c. f c s)) (simp append_assoc)

  partly : (k : ℕ) → k ≤ n → up step k s ≡ front k ++ drop (from + k) s
  unfolding up front tab
  partly zero h =
      let none : from ≡ from + 0 = omega arith in
      sym (take-append-drop from s) ∙ ap (λ m. take from s ++ drop m s) none ∙ simp append_assoc
  partly (suc k) h =
      is k (up step k s) ∙ ap₂ (λ r x. set r (from + k) x) (partly k (omega arith)) (unread k k (omega arith) h) ∙ stored k h

  pub filled : up step n s ≡ take from s ++ (tab n (λ c. f c s) ++ drop (from + n) s)
  unfolding front
  filled = partly n (le_refl n) ∙ append_assoc (take from s) (tab n (λ c. f c s)) (drop (from + n) s)

-- the same from the list's beginning on
pub filled_front : {A : Type 0} (step : ℕ → List A → List A) (f : ℕ → List A → A) (n : ℕ) (s : List A)
    → ((c : ℕ) (r : List A) → step c r ≡ set r c (f c r)) → ((c i : ℕ) (x : A) (r : List A) → c < n → i < n → f c (set r i x) ≡ f c r)
    → n ≤ length s → up step n s ≡ tab n (λ c. f c s) ++ drop n s
filled_front step f n s is same fits =
    filled step f 0 n s (λ c r. is c r ∙ ap (λ m. set r m (f c r)) (sym (none c))) (λ c i x r h l. ap (λ m. f c (set r m x)) (none i) ∙ same c i x r h l) (omega arith)
    ∙ ap (λ m. tab n (λ c. f c s) ++ drop m s) (none n)
  where
    none : (m : ℕ) → 0 + m ≡ m
    none m = omega arith
