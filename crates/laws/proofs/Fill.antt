-- A stretch of a list, filled cell by cell; a sum over a tab as a loop. Assumes nothing.
use Prim.Native.Nat.{ℕ, zero, suc, ◌+◌, ◌-◌, ◌<◌, ◌≤◌}
use mathlib.Core.Path.{◌≡◌, refl, sym, ap, ap₂, ◌∙◌}
use mathlib.Core.Bool.{Bool, cond}
use mathlib.Core.List.{List, [], ◌∷◌, ◌++◌, append_assoc}
use native.Mathlib.Nat.{add-zero, add-suc}
use native.Mathlib.Omega.{arith}
use lib.ListN.{length, get_or, set, take, drop, take-append-drop, length-append}
use lib.Seq.{drop-cons, set_at, take_at, drop_at, length-take-le, take-take, drop-drop}
use Rattle.laws.specs.Loops.{up}
use Rattle.laws.specs.Lists.{tab, over}
use Rattle.laws.proofs.Lists.{length_tab}
use Rattle.laws.proofs.Loops.{up_first}

-- two loops with the same turns
pub up_same : {A : Type 0} (f h : ℕ → A → A) (s : A) (k : ℕ) → ((i : ℕ) (a : A) → i < k → f i a ≡ h i a) → up f k s ≡ up h k s
unfolding up
up_same f h s zero e = refl
up_same f h s (suc k) e = e k (up f k s) (omega arith) ∙ ap (h k) (up_same f h s k (λ i a l. e i a (omega arith)))

-- `over` a tab is a loop
pub over_tab : {A B : Type 0} (test : A → Bool) (f : A → B → B) (n : ℕ) (g : ℕ → A) (b : B)
    → over test f (tab n g) b ≡ up (λ i s. cond (test (g i)) (f (g i) s) s) n b
unfolding over tab up
over_tab test f zero g b = refl
over_tab test f (suc n) g b =
    over_tab test f n (λ k. g (suc k)) (cond (test (g 0)) (f (g 0) b) b) ∙ sym (up_first (λ i s. cond (test (g i)) (f (g i) s) s) n b)

module _ {A : Type 0} where
  pub tab_snoc : (n : ℕ) (f : ℕ → A) → tab (suc n) f ≡ tab n f ++ (f n ∷ [])
  unfolding tab
  tab_snoc zero f = refl
  tab_snoc (suc n) f = ap (λ l. f 0 ∷ l) (tab_snoc n (λ k. f (suc k)))

  pub tab_same : (n : ℕ) (f h : ℕ → A) → ((i : ℕ) → i < n → f i ≡ h i) → tab n f ≡ tab n h
  unfolding tab
  tab_same zero f h e = refl
  tab_same (suc n) f h e = ap₂ ◌∷◌ (e 0 (omega arith)) (tab_same n (λ k. f (suc k)) (λ k. h (suc k)) (λ i l. e (suc i) (omega arith)))

  -- a part of a list, read from the front that holds it, or from the end that holds it
  pub part_take : (k n m : ℕ) (s : List A) → k + n ≤ m → take n (drop k (take m s)) ≡ take n (drop k s)
  part_take zero n m s h = take-take n m s (omega arith)
  part_take (suc k) n zero s h = absurd (omega arith)
  part_take (suc k) n (suc m) [] h = refl
  part_take (suc k) n (suc m) (x ∷ s) h = part_take k n m s (omega arith)

  pub part_drop : (c k : ℕ) (s : List A) → c ≤ k → drop (k - c) (drop c s) ≡ drop k s
  part_drop c k s h = let e : c + (k - c) ≡ k = omega arith in drop-drop (k - c) c s ∙ ap (λ j. drop j s) e

  -- the turns 0 .. m - 1 set the cells k .. k + m - 1, each from what the earlier turns have left as it was
  module _ (f : ℕ → List A → A) (e : List A) (k m : ℕ) (room : k + m ≤ length e)
      (same : (c : ℕ) (s : List A) → c < m → take k s ≡ take k e → drop (k + c) s ≡ drop (k + c) e → f c s ≡ f c e) where
    head : ℕ → List A
    head c = take k e ++ tab c (λ j. f j e)

    head_length : (c : ℕ) → length (head c) ≡ k + c
    unfolding head
    head_length c = length-append (take k e) (tab c (λ j. f j e)) ∙ ap₂ ◌+◌ (length-take-le k e (omega arith)) (length_tab c (λ j. f j e))

    so_far : ℕ → List A
    so_far c = head c ++ drop (k + c) e

    turn : (c : ℕ) → c < m → set (so_far c) (k + c) (f c (so_far c)) ≡ so_far (suc c)
    unfolding so_far head
    turn c l =
        let front : so_far c ≡ take k e ++ (tab c (λ j. f j e) ++ drop (k + c) e) = append_assoc (take k e) (tab c (λ j. f j e)) (drop (k + c) e) in
        let kept : take k (so_far c) ≡ take k e = ap (take k) front ∙ take_at (take k e) (tab c (λ j. f j e) ++ drop (k + c) e) k (length-take-le k e (omega arith)) in
        let rest : drop (k + c) (so_far c) ≡ drop (k + c) e = drop_at (head c) (drop (k + c) e) (k + c) (head_length c) in
        let v = f c e in
        let next : head c ++ (v ∷ []) ≡ head (suc c) = append_assoc (take k e) (tab c (λ j. f j e)) (v ∷ []) ∙ ap (λ t. take k e ++ t) (sym (tab_snoc c (λ j. f j e))) in
        ap (λ w. set (so_far c) (k + c) w) (same c (so_far c) l kept rest)
        ∙ ap (λ r. set (head c ++ r) (k + c) v) (drop-cons e (k + c) v (omega arith))
        ∙ set_at (head c) (get_or e (k + c) v) (drop (suc (k + c)) e) v (k + c) (head_length c)
        ∙ sym (append_assoc (head c) (v ∷ []) (drop (suc (k + c)) e))
        ∙ ap₂ (λ x n. x ++ drop n e) next (sym (add-suc k c))

    turns : (c : ℕ) → c ≤ m → up (λ j s. set s (k + j) (f j s)) c e ≡ so_far c
    unfolding up so_far head tab
    turns zero l = sym (ap (λ n. (take k e ++ []) ++ drop n e) (add-zero k) ∙ append_assoc (take k e) [] (drop k e) ∙ take-append-drop k e)
    turns (suc c) l = ap (λ s. set s (k + c) (f c s)) (turns c (omega arith)) ∙ turn c (omega arith)

    pub filled : up (λ j s. set s (k + j) (f j s)) m e ≡ take k e ++ tab m (λ j. f j e) ++ drop (k + m) e
    unfolding so_far head
    filled = turns m (omega arith)
