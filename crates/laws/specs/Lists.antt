-- Lists made and gone through from the first element on, and the numbers that pass a test.
use Rattle.std.specs.Prelude.{ℕ, zero, suc, Bool, false, ◌||◌, cond, List, [], ◌∷◌, ◌++◌}

module _ {A : Type 0} where
  -- f 0, f 1, .. f (n - 1)
  unfoldable pub tab : ℕ → (ℕ → A) → List A
  tab zero f = []
  tab (suc n) f = f zero ∷ tab n (λ k. f (suc k))

  unfoldable pub any : (A → Bool) → List A → Bool
  any f [] = false
  any f (a ∷ l) = f a || any f l

  -- b after f at each element that passes the test, in the list's order
  unfoldable pub over : {B : Type 0} → (A → Bool) → (A → B → B) → List A → B → B
  over test f [] b = b
  over test f (a ∷ l) b = over test f l (cond (test a) (f a b) b)

-- n alone if it is to be kept; the numbers below n that pass a test, ascending
unfoldable pub kept : Bool → ℕ → List ℕ
kept b n = cond b (n ∷ []) []

unfoldable pub chosen : (ℕ → Bool) → ℕ → List ℕ
chosen p zero = []
chosen p (suc n) = chosen p n ++ kept (p n) n
