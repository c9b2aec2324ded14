-- Writing at the cells of a list that covers the air exactly, in a field that is +0 off air, makes the field anew, in
-- air. Assumes nothing.
use Prim.Native.Nat.{ℕ, zero, suc, ◌+◌, ◌≤◌, ◌<◌}
use mathlib.Core.Path.{◌≡◌, refl, sym, ap, ap₂, ◌∙◌}
use mathlib.Core.Logic.{⊎_elim}
use mathlib.Core.Bool.{Bool, true, false, cond, false≢true}
use mathlib.Core.List.{List, ◌++◌}
use native.Mathlib.Decide.{ℕ_discrete}
use native.Mathlib.Nat.{le_refl, le_of_suc-le-suc, eq-or-lt_of_le}
use native.Mathlib.Omega.{arith}
use lib.ListN.{length, get_or, set, take, drop, length-set, length-drop, take-append-drop}
use lib.Seq.{get_or-set_same, get_or-set_other, take-set-le, drop-set-lt, get_or-drop, drop-drop}
use lib.Ieee.{Float, nan}
use Rattle.laws.specs.Binary64.{+0}
use Rattle.laws.specs.Loops.{up}
use Rattle.laws.specs.Lists.{tab}
use Rattle.laws.proofs.Fill.{tab_same}
use Rattle.laws.proofs.Fills.{up_keeps, tab_take}
use Rattle.method.specs.declared.Sides.{Sides}
use Rattle.method.specs.Cast.{cells, is_air}
use Rattle.method.specs.Transfers.{value, in_air}
use Rattle.smooth.specs.Written.{written, Covers}

-- ---- over plain lists: no store changes what f reads
module _ {A : Type 0} (from : ℕ) (f : ℕ → List A → A) (n : ℕ) (same : (c i : ℕ) (x : A) (r : List A) → c < n → i < n → f c (set r (from + i) x) ≡ f c r)
    (cs : List ℕ) (below : (k : ℕ) → k < length cs → get_or cs k 0 < n) (s : List A) (fits : from + n ≤ length s) where
  abbrev step : ℕ → List A → List A
  step k r = set r (from + get_or cs k 0) (f (get_or cs k 0) r)

  after : ℕ → List A
  after k = up step k s

  after_length : (k : ℕ) → length (after k) ≡ length s
  unfolding after
  after_length k = up_keeps step (λ i u. length-set u (from + get_or cs i 0) (f (get_or cs i 0) u)) k s

  after_unread : (k c : ℕ) → k ≤ length cs → c < n → f c (after k) ≡ f c s
  unfolding after up
  after_unread zero c h l = refl
  after_unread (suc k) c h l = same c (get_or cs k 0) (f (get_or cs k 0) (after k)) (after k) l (below k h) ∙ after_unread k c (omega arith) l

  front_kept : (k : ℕ) → take from (after k) ≡ take from s
  unfolding after up
  front_kept zero = refl
  front_kept (suc k) = take-set-le from (after k) (from + get_or cs k 0) (f (get_or cs k 0) (after k)) (omega arith) ∙ front_kept k

  rest_kept : (k : ℕ) → k ≤ length cs → drop (from + n) (after k) ≡ drop (from + n) s
  unfolding after up
  rest_kept zero h = refl
  rest_kept (suc k) h =
      drop-set-lt (from + n) (after k) (from + get_or cs k 0) (f (get_or cs k 0) (after k)) (omega (arith, below k h)) ∙ rest_kept k (omega arith)

  -- a place that is none of the list's stays, one that is becomes f
  unwritten : (d : A) (k i : ℕ) → ((j : ℕ) → j < k → get_or cs j 0 ≡ i → ⊥) → get_or (after k) (from + i) d ≡ get_or s (from + i) d
  unfolding after up
  unwritten d zero i h = refl
  unwritten d (suc k) i h =
      get_or-set_other (after k) (from + get_or cs k 0) (from + i) (f (get_or cs k 0) (after k)) d (λ e. h k (omega arith) (omega arith))
      ∙ unwritten d k i (λ j l. h j (omega arith))

  was_written : (d : A) (k j : ℕ) → k ≤ length cs → j < k → get_or (after k) (from + get_or cs j 0) d ≡ f (get_or cs j 0) s
  unfolding after up
  was_written d zero j h l = absurd (omega arith)
  was_written d (suc k) j h l = go (ℕ_discrete (get_or cs k 0) (get_or cs j 0)) (was_written d k j (omega arith))
    where
      go : Dec (get_or cs k 0 ≡ get_or cs j 0) → (j < k → get_or (after k) (from + get_or cs j 0) d ≡ f (get_or cs j 0) s)
          → get_or (set (after k) (from + get_or cs k 0) (f (get_or cs k 0) (after k))) (from + get_or cs j 0) d ≡ f (get_or cs j 0) s
      go (yes e) r =
          ap (λ c. get_or (set (after k) (from + get_or cs k 0) (f (get_or cs k 0) (after k))) (from + c) d) (sym e)
          ∙ get_or-set_same (after k) (from + get_or cs k 0) (f (get_or cs k 0) (after k)) d (omega (arith, after_length k, below k h))
          ∙ after_unread k (get_or cs k 0) (omega arith) (below k h) ∙ ap (λ c. f c s) e
      go (no e) r =
          get_or-set_other (after k) (from + get_or cs k 0) (from + get_or cs j 0) (f (get_or cs k 0) (after k)) d (λ q. e (omega arith))
          ∙ r (⊎_elim (λ (q : j ≡ k). absurd (e (ap (λ i. get_or cs i 0) (sym q)))) (λ q. q) (eq-or-lt_of_le (le_of_suc-le-suc l)))

  -- THE LAW
  pub covered : (d z : A) (at : ℕ → Bool) → Covers n at cs → ((c : ℕ) → c < n → at c ≡ false → get_or s (from + c) d ≡ z)
      → up step (length cs) s ≡ take from s ++ (tab n (λ c. cond (at c) (f c s) z) ++ drop (from + n) s)
  unfolding after
  covered d z at v off =
      let w : List A = after (length cs) in
      let long : length (after (length cs)) ≡ length s = after_length (length cs) in
      let is : (c : ℕ) → c < n → get_or (drop from (after (length cs))) c d ≡ cond (at c) (f c s) z = λ c h. get_or-drop from (after (length cs)) c d ∙ go c h (at c) refl in
      let middle : take n (drop from (after (length cs))) ≡ tab n (λ c. cond (at c) (f c s) z) =
      sym (tab_take n (drop from (after (length cs))) d (omega (arith, length-drop from (after (length cs))))) ∙ tab_same n _ _ is in
      sym (take-append-drop from w)
      ∙ ap (λ l. take from w ++ l) (sym (take-append-drop n (drop from w)) ∙ ap (λ l. take n (drop from w) ++ l) (drop-drop n from w))
      ∙ ap₂ (λ a b. a ++ b) (front_kept (length cs)) (ap₂ (λ a b. a ++ b) middle (rest_kept (length cs) (le_refl (length cs))))
    where
      go : (c : ℕ) → c < n → (t : Bool) → at c ≡ t → get_or (after (length cs)) (from + c) d ≡ cond t (f c s) z
      go c h true a =
          let k = v.each c h a in
          ap (λ i. get_or (after (length cs)) (from + i) d) (sym k.2) ∙ was_written d (length cs) k.0 (le_refl (length cs)) k.1 ∙ ap (λ i. f i s) k.2
      go c h false a =
          unwritten d (length cs) c (λ j l e. false≢true (sym a ∙ ap at (sym e) ∙ v.pass j l)) ∙ off c h a

-- ---- THE LAW for fields: off air the field is +0, the list covers the air
pub at_air : (g : Sides) (ls : List ℕ) (from : ℕ) (f : ℕ → List Float → Float) (cs : List ℕ) (s : List Float)
    → ((c i : ℕ) (x : Float) (r : List Float) → c < cells g → i < cells g → f c (set r (from + i) x) ≡ f c r)
    → from + cells g ≤ length s → Covers (cells g) (is_air ls) cs → ((c : ℕ) → c < cells g → is_air ls c ≡ false → value s (from + c) ≡ +0)
    → written from f cs s ≡ take from s ++ (in_air g ls (λ c. f c s) ++ drop (from + cells g) s)
unfolding written in_air
at_air g ls from f cs s same fits v off = covered from f (cells g) same cs v.below s fits nan +0 (is_air ls) v off
