-- Laws of `tab`, `any` and `over`. Assumes nothing.
use mathlib.Core.Path.{◌≡◌, refl, sym, ap, ap₂, ◌∙◌}
use mathlib.Core.Logic.{⊎_elim}
use mathlib.Core.Bool.{Bool, true, false, ◌||◌, cond, false≢true}
use mathlib.Core.List.{List, [], ◌∷◌, map, Memᴰ}
use Prim.Native.Nat.{ℕ, zero, suc, ◌<◌}
use native.Mathlib.Nat.{not-suc-le-zero, le_of_suc-le-suc}
use native.Mathlib.Omega.{arith}
use lib.Dec.{T}
use lib.ListN.{length, get_or}
use Rattle.laws.specs.Loops.{up}
use Rattle.laws.specs.Lists.{tab, any, over}
use Rattle.laws.proofs.Bools.{or_cases, or_l, or_r}
use Rattle.laws.proofs.Loops.{up_first}

module _ {A : Type 0} where
  pub length_tab : (n : ℕ) (f : ℕ → A) → length (tab n f) ≡ n
  unfolding tab
  length_tab zero f = refl
  length_tab (suc n) f = ap suc (length_tab n (λ k. f (suc k)))

  pub get_or_tab : (n : ℕ) (f : ℕ → A) (i : ℕ) (d : A) → i < n → get_or (tab n f) i d ≡ f i
  unfolding tab
  get_or_tab zero f i d h = absurd (not-suc-le-zero h)
  get_or_tab (suc n) f zero d h = refl
  get_or_tab (suc n) f (suc i) d h = get_or_tab n (λ k. f (suc k)) i d (le_of_suc-le-suc h)

  -- inside a list the default is not read
  pub get_or_any : (l : List A) (i : ℕ) (d e : A) → i < length l → get_or l i d ≡ get_or l i e
  get_or_any [] i d e h = absurd (not-suc-le-zero h)
  get_or_any (a ∷ l) zero d e h = refl
  get_or_any (a ∷ l) (suc i) d e h = get_or_any l i d e (le_of_suc-le-suc h)

  -- `any` finds an element, and any element that passes is found
  pub any_some : (f : A → Bool) (l : List A) → T (any f l) → (x : A) × Memᴰ x l × T (f x)
  unfolding any
  any_some f [] t = absurd t
  any_some f (a ∷ l) t = ⊎_elim (λ h. (a, Memᴰ.head refl, h)) (λ h. later (any_some f l h)) (or_cases (f a) (any f l) t)
    where
      later : (x : A) × Memᴰ x l × T (f x) → (x : A) × Memᴰ x (a ∷ l) × T (f x)
      later r = (r.0, Memᴰ.tail r.1, r.2)

  pub any_in : (f : A → Bool) (l : List A) (x : A) → Memᴰ x l → T (f x) → T (any f l)
  unfolding any
  any_in f (a ∷ l) x (Memᴰ.head e) t = or_l (f a) (any f l) (rw (← e) t)
  any_in f [] x x4 t = elim x4 [ ]
  any_in f (a ∷ l) x (Memᴰ.tail m) t = or_r (f a) (any f l) (any_in f l x m t)

  pub any_cong : (f g : A → Bool) (l : List A) → ((x : A) → f x ≡ g x) → any f l ≡ any g l
  unfolding any
  any_cong f g [] h = refl
  any_cong f g (a ∷ l) h = ap₂ ◌||◌ (h a) (any_cong f g l h)

-- ---- `over` a list is a loop that reads the list by its index
pub over_up : {A B : Type 0} (test : A → Bool) (f : A → B → B) (l : List A) (d : A) (b : B)
    → over test f l b ≡ up (λ i s. cond (test (get_or l i d)) (f (get_or l i d) s) s) (length l) b
unfolding over up
over_up test f [] d b = refl
over_up test f (a ∷ l) d b =
    over_up test f l d (cond (test a) (f a b) b)
    ∙ sym (up_first (λ i s. cond (test (get_or (a ∷ l) i d)) (f (get_or (a ∷ l) i d) s) s) (length l) b)

-- ---- a test that some element of a tab passes
pub some_of : {A B : Type 0} (p : B → Bool) (g : A → B) (n : ℕ) (f : ℕ → A) → any p (map g (tab n f)) ≡ true → (t : ℕ) × (t < n) × (p (g (f t)) ≡ true)
unfolding tab any
some_of p g zero f h = absurd (false≢true h)
some_of p g (suc n) f h = go (p (g (f 0))) refl h (some_of p g n (λ k. f (suc k)))
  where
    go : (b : Bool) → p (g (f 0)) ≡ b → (b || any p (map g (tab n (λ k. f (suc k))))) ≡ true
        → (any p (map g (tab n (λ k. f (suc k)))) ≡ true → (t : ℕ) × (t < n) × (p (g (f (suc t))) ≡ true))
        → (t : ℕ) × (t < suc n) × (p (g (f t)) ≡ true)
    go true e h r = (0, omega arith, e)
    go false e h r = let q = r h in (suc q.0, omega (arith, q.1), q.2)

pub some_in : {A B : Type 0} (p : B → Bool) (g : A → B) (n : ℕ) (f : ℕ → A) (t : ℕ) → t < n → p (g (f t)) ≡ true → any p (map g (tab n f)) ≡ true
unfolding tab any
some_in p g zero f t h e = absurd (omega arith)
some_in p g (suc n) f zero h e = rw e
some_in p g (suc n) f (suc t) h e = go (p (g (f 0))) (some_in p g n (λ k. f (suc k)) t (le_of_suc-le-suc h) e)
  where
    go : (b : Bool) {c : Bool} → c ≡ true → (b || c) ≡ true
    go true e = refl
    go false e = e
