-- The first cell at which a test passes, and that there is none. Assumes nothing.
use mathlib.Core.Path.{◌≡◌, refl, sym, ap, ap₂, ◌∙◌}
use mathlib.Core.Logic.{⊎_elim}
use mathlib.Core.Bool.{Bool, true, false, not, cond}
use Prim.Native.Nat.{ℕ, zero, suc, ◌+◌, ◌<◌, ◌≤◌}
use native.Mathlib.Nat.{eq-or-lt_of_le, le_of_suc-le-suc, not-suc-le-zero}
use native.Mathlib.Numerals.{add-one}
use native.Mathlib.Omega.{arith}
use lib.Dec.{T}
use Rattle.laws.specs.Loops.{up}
use Rattle.std.specs.Prelude.{None, Some}
use Rattle.method.specs.Cast.{or_else, first}
use Rattle.laws.proofs.Bools.{is_true, is_false}

-- one cell more
first_suc : (test : ℕ → Bool) (n : ℕ) → first test (suc n) ≡ or_else (first test n) (cond (test n) (Some n) None)
unfolding first up
first_suc test n = refl

pub record FirstAt (test : ℕ → Bool) (n c : ℕ) : Type 0 where
  pub below : c < n
  pub here : T (test c)
  pub before : (j : ℕ) → j < c → T (not (test j))

module _ (test : ℕ → Bool) where
  pub data Search (n : ℕ) : Type 0 where
    found : (c : ℕ) → first test n ≡ Some c → FirstAt test n c → Search n
    none : first test n ≡ None → ((j : ℕ) → j < n → T (not (test j))) → Search n

  pub search_first : (n : ℕ) → Search n
  unfolding first up or_else
  search_first zero = none refl (λ j l. absurd (omega arith))
  search_first (suc n) = go (search_first n) (test n) (λ t. t) (λ t. t)
    where
      all : ((j : ℕ) → j < n → T (not (test j))) → T (not (test n)) → (j : ℕ) → j < suc n → T (not (test j))
      all h t j l = ⊎_elim (λ e. rw e t) (λ k. h j k) (eq-or-lt_of_le (le_of_suc-le-suc l))

      go : Search n → (b : Bool) → (T b → T (test n)) → (T (not b) → T (not (test n))) → Search (suc n)
      go (found c e r) b f g = found c (first_suc test n ∙ ap (λ x. or_else x (cond (test n) (Some n) None)) e) (record { below = omega (arith, r.below); here = r.here; before = r.before })
      go (none e h) true f g = found n (first_suc test n ∙ ap₂ (λ x y. or_else x (cond y (Some n) None)) e (is_true (test n) (f tt))) (record { below = omega arith; here = f tt; before = h })
      go (none e h) false f g = none (first_suc test n ∙ ap₂ (λ x y. or_else x (cond y (Some n) None)) e (is_false (test n) (g tt))) (all h (g tt))

-- ---- a loop that leaves at the first cell that passes: none below i did
pub record NoneBelow (test : ℕ → Bool) (i : ℕ) : Type 0 where
  pub is : first test i ≡ None

pub none_none : (test : ℕ → Bool) → NoneBelow test 0
unfolding first up
none_none test = record { is = refl }

pub none_more : (test : ℕ → Bool) (i : ℕ) (r : Bool) → NoneBelow test i → r ≡ test i → r ≡ false → NoneBelow test (i + 1)
unfolding or_else
none_more test i r h e f = record { is = ap (first test) (add-one i) ∙ first_suc test i ∙ rw (h.is, ← e, f) }

pub none_end : (test : ℕ → Bool) (i n : ℕ) → i ≤ n → n ≤ i → NoneBelow test i → None ≡ first test n
none_end test i n a b h = sym h.is ∙ ap (first test) (omega arith)

reached : (test : ℕ → Bool) (i n : ℕ) → i < n → NoneBelow test i → test i ≡ true → first test n ≡ Some i
unfolding or_else
reached test i zero h k e = absurd (not-suc-le-zero h)
reached test i (suc n) h k e = first_suc test n ∙ ⊎_elim
    (λ q. rw (← q) (rw (k.is, e)))
    (λ l. rw (reached test i n l k e))
    (eq-or-lt_of_le (le_of_suc-le-suc h))

pub hit : (test : ℕ → Bool) (i n : ℕ) (r : Bool) → i < n → NoneBelow test i → r ≡ test i → r ≡ true → Some i ≡ first test n
hit test i n r h k e f = sym (reached test i n h k (sym e ∙ f))

-- tests that say the same of the cells find the same
pub first_cong : (f g : ℕ → Bool) (n : ℕ) → ((i : ℕ) → i < n → f i ≡ g i) → first f n ≡ first g n
unfolding first up
first_cong f g zero h = refl
first_cong f g (suc n) h = first_suc f n ∙ ap₂ (λ x b. or_else x (cond b (Some n) None)) (first_cong f g n (λ i l. h i (omega arith))) (h n (omega arith)) ∙ sym (first_suc g n)
