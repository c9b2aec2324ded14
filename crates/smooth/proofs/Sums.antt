-- The sum over the air cells across a cell's faces: only cells are read. Assumes nothing.
use Prim.Native.Nat.{ℕ, zero, suc, ◌≤◌, ◌<◌, suc-le-suc}
use mathlib.Core.Path.{◌≡◌, refl, ap, ◌∙◌}
use mathlib.Core.Bool.{Bool, true, false, cond}
use mathlib.Core.List.{List, [], ◌∷◌}
use native.Mathlib.Omega.{arith}
use borrow.Author.Tests.{eqb-true}
use lib.ListN.{length, get_or, take}
use lib.Seq.{get_or-take}
use lib.Ieee.{Float, nan}
use Rattle.laws.specs.Binary64.{◌⊕◌, +0}
use Rattle.laws.specs.Lists.{over}
use Rattle.method.specs.declared.Sides.{Sides}
use Rattle.method.specs.Cast.{label_at, is_air, around}
use Rattle.method.specs.Transfers.{value}
use Rattle.method.specs.Cycle.{air_sum}

-- ---- a label that is air stands in the list
inside : (ls : List ℕ) (j : ℕ) → get_or ls j 2 ≡ 0 → j < length ls
inside [] j h = absurd (omega arith)
inside (x ∷ ls) zero h = omega arith
inside (x ∷ ls) (suc j) h = suc-le-suc (inside ls j h)

pub air_in_lem : (ls : List ℕ) (j : ℕ) → is_air ls j ≡ true → j < length ls
unfolding is_air label_at
air_in_lem ls j h = inside ls j (eqb-true (get_or ls j 2) 0 h)

-- ---- two fields with the same values at the air cells have the same sums
over_same : {A B : Type 0} (test : A → Bool) (f h : A → B → B) (l : List A) (b : B)
    → ((x : A) (y : B) → test x ≡ true → f x y ≡ h x y) → over test f l b ≡ over test h l b
unfolding over
over_same test f h [] b e = refl
over_same test f h (x ∷ l) b e =
    over_same test f h l (cond (test x) (f x b) b) e ∙ ap (over test h l) (go (test x) refl)
  where
    go : (t : Bool) → test x ≡ t → cond t (f x b) b ≡ cond t (h x b) b
    go true p = e x b p
    go false p = refl

pub air_sum_same : (g : Sides) (ls : List ℕ) (u v : List Float) (c : ℕ) → ((j : ℕ) → j < length ls → value u j ≡ value v j) → air_sum g ls u c ≡ air_sum g ls v c
unfolding air_sum
air_sum_same g ls u v c e =
    over_same (is_air ls) (λ j a. a ⊕ value u j) (λ j a. a ⊕ value v j) (around g c) +0 (λ j a p. ap (◌⊕◌ a) (e j (air_in_lem ls j p)))

-- what follows a field is not read
pub air_sum_take : (g : Sides) (ls : List ℕ) (n : ℕ) (r : List Float) (c : ℕ) → length ls ≤ n → air_sum g ls (take n r) c ≡ air_sum g ls r c
air_sum_take g ls n r c h = air_sum_same g ls (take n r) r c (λ j l. get_or-take n r j nan (omega arith))
