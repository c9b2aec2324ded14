-- A source row and a target row: a cell of the row, the four of a coarse cell, the two of a fine cell, the row of
-- targets. Assumes nothing.
use Prim.Native.Nat.{ℕ, ◌+◌, ◌-◌, ◌*◌, ◌/◌, ◌%◌, ◌<◌, ◌≤◌}
use mathlib.Core.Path.{◌≡◌, refl, sym, ap, ◌∙◌}
use mathlib.Core.Bool.{Bool, true, false, ◌&&◌, cond}
use mathlib.Core.List.{List}
use native.Mathlib.Omega.{arith}
use borrow.Author.Rules.{rules}
use borrow.Author.Tests.{eq-eqb, ne_eqb, lt-ltb, le-ltb, le-leb, lt-leb}
use lib.Dec.{ltb}
use lib.ListN.{length, get_or, set, take, drop, length-drop, length-set}
use lib.Seq.{length-take-le}
use lib.Ieee.{Float, nan}
use Rattle.laws.specs.Binary64.{◌⊕◌, ◌⊗◌}
use Rattle.laws.specs.Loops.{up}
use Rattle.laws.proofs.Loops.{Up, up_more}
use Rattle.method.specs.Transfers.{value}
use Rattle.transfer.specs.Rows.{row_term, four, two, Share, row_step, pair_step}

-- ---- a cell of the row
module _ (row : List Float) (p : ℕ) (w a : Float) where
  pub cell_none : p ≡ 0 → a ≡ row_term row p w a
  unfolding row_term
  cell_none h = rw (le-ltb 0 p (omega arith))

  pub cell_in : (p ≡ 0 → ⊥) → p ≤ length row → a ⊕ w ⊗ get_or row (p - 1) nan ≡ row_term row p w a
  unfolding row_term
  cell_in h l = rw (lt-ltb 0 p (omega (arith, positive p h)), le-leb p (length row) l)
    where
      positive : (p : ℕ) → (p ≡ 0 → ⊥) → 0 < p
      positive p h = omega arith

  pub cell_out : length row < p → a ≡ row_term row p w a
  unfolding row_term
  cell_out l = rw (lt-leb p (length row) l) (no (ltb 0 p))
    where
      no : (b : Bool) → a ≡ cond (b && false) (a ⊕ w ⊗ get_or row (p - 1) nan) a
      no true = refl
      no false = refl

-- cell p, counted from one, is cell q
cell_at : (row : List Float) (q p : ℕ) (w a : Float) → p ≡ q + 1 → p ≤ length row → a ⊕ w ⊗ get_or row q nan ≡ row_term row p w a
cell_at row q p w a e k = let f : q ≡ p - 1 = omega arith in ap (λ n. a ⊕ w ⊗ get_or row n nan) f ∙ cell_in row p w a (λ z. omega arith) k

-- ---- the four
module _ (row : List Float) (w v : Float) (i : ℕ) (a : Float) where
  pub four_is : (b c d e : Float) → b ≡ row_term row (2 * i) w a → c ≡ row_term row (2 * i + 1) v b → d ≡ row_term row (2 * i + 2) v c → e ≡ row_term row (2 * i + 3) w d
      → e ≡ four row w v i a
  unfolding four
  four_is b c d e p q r s =
      s ∙ ap (row_term row (2 * i + 3) w) (r ∙ ap (row_term row (2 * i + 2) v) (q ∙ ap (row_term row (2 * i + 1) v) p))

  pub four_inside : 0 < i → 2 * i + 3 ≤ length row
      → a ⊕ w ⊗ get_or row (2 * i - 1) nan ⊕ v ⊗ get_or row (2 * i) nan ⊕ v ⊗ get_or row (2 * i + 1) nan ⊕ w ⊗ get_or row (2 * i + 2) nan ≡ four row w v i a
  four_inside h l =
      four_is _ _ _ _
      (cell_in row (2 * i) w a (λ z. omega arith) (omega arith))
      (cell_at row (2 * i) (2 * i + 1) v _ (omega arith) (omega arith))
      (cell_at row (2 * i + 1) (2 * i + 2) v _ (omega arith) (omega arith))
      (cell_at row (2 * i + 2) (2 * i + 3) w _ (omega arith) (omega arith))

-- a part of the room, as the code borrows it
pub as_lent : (r : List Float) (f n : ℕ) → take (f + n - f) (drop f r) ≡ take n (drop f r)
as_lent r f n = let long : f + n - f ≡ n = omega arith in ap (λ k. take k (drop f r)) long

-- the four of such a part
module _ (r : List Float) (f n : ℕ) (w v : Float) (i : ℕ) (a : Float) where
  pub part_four : (b c d e : Float) → b ≡ row_term (take (f + n - f) (drop f r)) (2 * i) w a → c ≡ row_term (take (f + n - f) (drop f r)) (2 * i + 1) v b
      → d ≡ row_term (take (f + n - f) (drop f r)) (2 * i + 2) v c → e ≡ row_term (take (f + n - f) (drop f r)) (2 * i + 3) w d
      → e ≡ four (take n (drop f r)) w v i a
  part_four b c d e p q s t = four_is _ w v i a b c d e p q s t ∙ ap (λ k. four k w v i a) (as_lent r f n)

  pub inside_is : f + n ≤ length r → 0 < i → 2 * i + 3 ≤ n
      → a ⊕ w ⊗ get_or (take (f + n - f) (drop f r)) (2 * i - 1) nan ⊕ v ⊗ get_or (take (f + n - f) (drop f r)) (2 * i) nan
      ⊕ v ⊗ get_or (take (f + n - f) (drop f r)) (2 * i + 1) nan ⊕ w ⊗ get_or (take (f + n - f) (drop f r)) (2 * i + 2) nan ≡ four (take n (drop f r)) w v i a
  inside_is l h m = four_inside _ w v i a h (omega (arith, length-take-le (f + n - f) (drop f r) (omega (arith, length-drop f r)))) ∙ ap (λ k. four k w v i a) (as_lent r f n)

-- ---- the two
module _ (row : List Float) (w v : Float) (i : ℕ) (a : Float) where
  pub two_even : (b c : Float) → i % 2 ≡ 0 → b ≡ row_term row ((i + 1) / 2) w a → c ≡ row_term row ((i + 1) / 2 + 1) v b → c ≡ two row w v i a
  unfolding two
  two_even b c h p q =
      q ∙ ap (row_term row ((i + 1) / 2 + 1) v) p
      ∙ ap (λ t. row_term row ((i + 1) / 2 + 1) (cond t v w) (row_term row ((i + 1) / 2) (cond t w v) a)) (sym (eq-eqb (i % 2) 0 h))

  pub two_odd : (b c : Float) → (i % 2 ≡ 0 → ⊥) → b ≡ row_term row ((i + 1) / 2) v a → c ≡ row_term row ((i + 1) / 2 + 1) w b → c ≡ two row w v i a
  unfolding two
  two_odd b c h p q =
      q ∙ ap (row_term row ((i + 1) / 2 + 1) w) p
      ∙ ap (λ t. row_term row ((i + 1) / 2 + 1) (cond t v w) (row_term row ((i + 1) / 2) (cond t w v) a)) (sym (ne_eqb (i % 2) 0 h))

-- the same of a part of the room, under the weights of the lower and the upper cell
module _ (r : List Float) (f n : ℕ) (w v : Float) (i : ℕ) (a b c : Float) (q : Float × Float)
    (below : b ≡ row_term (take (f + n - f) (drop f r)) ((i + 1) / 2) q.0 a) (above : c ≡ row_term (take (f + n - f) (drop f r)) ((i + 1) / 2 + 1) q.1 b) where
  pub part_even : i % 2 ≡ 0 → q ≡ (w, v) → c ≡ two (take n (drop f r)) w v i a
  part_even h e =
      two_even _ w v i a b c h (below ∙ ap (λ q. row_term (take (f + n - f) (drop f r)) ((i + 1) / 2) q.0 a) e) (above ∙ ap (λ q. row_term (take (f + n - f) (drop f r)) ((i + 1) / 2 + 1) q.1 b) e)
      ∙ ap (λ k. two k w v i a) (as_lent r f n)

  pub part_odd : (i % 2 ≡ 0 → ⊥) → q ≡ (v, w) → c ≡ two (take n (drop f r)) w v i a
  part_odd h e =
      two_odd _ w v i a b c h (below ∙ ap (λ q. row_term (take (f + n - f) (drop f r)) ((i + 1) / 2) q.0 a) e) (above ∙ ap (λ q. row_term (take (f + n - f) (drop f r)) ((i + 1) / 2 + 1) q.1 b) e)
      ∙ ap (λ k. two k w v i a) (as_lent r f n)

module _ (row : List Float) (w v : Float) (j : ℕ) (a : Float) (l : j + 1 < length row) where
  pub odd_inside : a ⊕ v ⊗ get_or row j nan ⊕ w ⊗ get_or row (j + 1) nan ≡ two row w v (2 * j + 1) a
  odd_inside =
      two_odd row w v (2 * j + 1) a _ _ (λ z. omega arith)
      (cell_at row j ((2 * j + 1 + 1) / 2) v a (omega arith) (omega arith))
      (cell_at row (j + 1) ((2 * j + 1 + 1) / 2 + 1) w _ (omega arith) (omega arith))

  pub even_inside : a ⊕ w ⊗ get_or row j nan ⊕ v ⊗ get_or row (j + 1) nan ≡ two row w v (2 * j + 2) a
  even_inside =
      two_even row w v (2 * j + 2) a _ _ (omega arith)
      (cell_at row j ((2 * j + 2 + 1) / 2) w a (omega arith) (omega arith))
      (cell_at row (j + 1) ((2 * j + 2 + 1) / 2 + 1) v _ (omega arith) (omega arith))

-- ---- a target cell, as the code sets it
pub row_set : (share : Share) (f n o i : ℕ) (w v r : Float) (e : List Float) → r ≡ share (take n (drop f e)) w v i (value e (o + i)) → set e (o + i) r ≡ row_step share f n o w v i e
row_set share f n o i w v r e q = ap (set e (o + i)) q

-- ---- the row, cell after cell
module _ (share : Share) (f n o : ℕ) (w v : Float) (e s : List Float) where
  -- its first cell
  pub row_first : s ≡ row_step share f n o w v 0 e → Up (row_step share f n o w v) e 1 s
  unfolding up
  row_first p = record { is = p }

  -- its last one
  pub row_last : (t : List Float) (i l m : ℕ) → Up (row_step share f n o w v) e i s → i ≡ l → l + 1 ≡ m → t ≡ row_step share f n o w v l s → t ≡ up (row_step share f n o w v) m e
  row_last t i l m u k j q = q ∙ ap (λ i. row_step share f n o w v i s) (sym k) ∙ (up_more u refl).is ∙ ap (λ k. up (row_step share f n o w v) (k + 1) e) k ∙ ap (λ k. up (row_step share f n o w v) k e) j

-- the two fine cells between a coarse cell and the next: what the code adds to each, the row as it borrows it
module _ (f n o j : ℕ) (w v : Float) where
  pub pair_is : (e : List Float) (x y : Float) → o + (2 * j + 2) < length e → f + n ≤ length e → j + 1 < n
      → x ≡ value e (o + (2 * j + 1)) ⊕ v ⊗ value (take (f + n - f) (drop f e)) j ⊕ w ⊗ value (take (f + n - f) (drop f e)) (j + 1)
      → y ≡ value (set e (o + (2 * j + 1)) x) (o + (2 * j + 1) + 1)
      ⊕ w ⊗ value (take (f + n - f) (drop f (set e (o + (2 * j + 1)) x))) j ⊕ v ⊗ value (take (f + n - f) (drop f (set e (o + (2 * j + 1)) x))) (j + 1)
      → set (set e (o + (2 * j + 1)) x) (o + (2 * j + 1) + 1) y ≡ pair_step f n o w v j e
  pair_is e x y l inside few p q =
      let a : List Float = set e (o + (2 * j + 1)) x in
      let place : o + (2 * j + 1) + 1 ≡ o + (2 * j + 2) = omega arith in
      let long : (s : List Float) → length s ≡ length e → j + 1 < length (take (f + n - f) (drop f s)) =
      λ s k. omega (arith, length-take-le (f + n - f) (drop f s) (omega (arith, length-drop f s))) in
      let first : a ≡ row_step two f n o w v (2 * j + 1) e =
      ap (set e (o + (2 * j + 1))) (p ∙ odd_inside _ w v j _ (long e refl) ∙ ap (λ k. two k w v (2 * j + 1) (value e (o + (2 * j + 1)))) (as_lent e f n)) in
      let sum : y ≡ two (take n (drop f a)) w v (2 * j + 2) (value a (o + (2 * j + 1) + 1)) =
      q ∙ even_inside _ w v j _ (long a (length-set e (o + (2 * j + 1)) x)) ∙ ap (λ k. two k w v (2 * j + 2) (value a (o + (2 * j + 1) + 1))) (as_lent a f n) in
      ap (set a (o + (2 * j + 1) + 1)) sum ∙ ap (λ i. set a i (two (take n (drop f a)) w v (2 * j + 2) (value a i))) place
      ∙ ap (row_step two f n o w v (2 * j + 2)) first

  pub pair_more : (e s t : List Float) → Up (row_step two f n o w v) e (2 * j + 1) s → t ≡ pair_step f n o w v j s → Up (row_step two f n o w v) e (2 * (j + 1) + 1) t
  pair_more e s t u q =
      let k : 2 * j + 1 + 1 + 1 ≡ 2 * (j + 1) + 1 = omega arith in
      let i : 2 * j + 2 ≡ 2 * j + 1 + 1 = omega arith in
      let first : Up (row_step two f n o w v) e (2 * j + 1 + 1) (row_step two f n o w v (2 * j + 1) s) = up_more u refl in
      let both : Up (row_step two f n o w v) e (2 * j + 1 + 1 + 1) t = up_more first (q ∙ ap (λ i. row_step two f n o w v i (row_step two f n o w v (2 * j + 1) s)) i) in
      record { is = both.is ∙ ap (λ k. up (row_step two f n o w v) k e) k }

pub ruleset rows = (rules, cell_none, cell_in, cell_out, four_is, four_inside, row_set, row_first, row_last, two_even, two_odd, odd_inside, even_inside, pair_is, pair_more)
