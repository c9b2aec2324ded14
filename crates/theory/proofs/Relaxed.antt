-- Gauss-Seidel at two cells that are no face neighbours: in either order the same. Assumes nothing.
use Prim.Native.Nat.{ℕ, ◌<◌}
use mathlib.Core.Path.{◌≡◌, refl, sym, ap, ap₂, subst, ◌∙◌}
use mathlib.Core.Bool.{Bool, true, false, cond}
use mathlib.Core.List.{List, [], ◌∷◌, Memᴰ}
use native.Mathlib.Decide.{ℕ_discrete}
use lib.ListN.{set}
use lib.Seq.{get_or-set_other, set_comm}
use lib.Ieee.{Float, nan}
use Rattle.laws.specs.Binary64.{◌⊕◌, ◌⊖◌, ◌⊗◌, ◌⊘◌, +0, ofℕ}
use Rattle.laws.specs.Lists.{over}
use Rattle.method.specs.declared.Sides.{Sides}
use Rattle.method.specs.Cast.{cells, is_air, degree, around, sides_fit}
use Rattle.method.specs.Transfers.{value}
use Rattle.method.specs.Cycle.{air_sum, applied, rest, change, relaxed}
use Rattle.theory.specs.Walks.{Beside}
use Rattle.theory.proofs.Neighbours.{beside_sym}

-- ---- a change is made from the cell and from those around it
over_same : {A B : Type 0} (test : A → Bool) (f h : A → B → B) (l : List A) (b : B) → ((x : A) (y : B) → Memᴰ x l → f x y ≡ h x y) → over test f l b ≡ over test h l b
unfolding over
over_same test f h [] b e = refl
over_same test f h (x ∷ l) b e =
    over_same test f h l (cond (test x) (f x b) b) (λ z y m. e z y (Memᴰ.tail m))
    ∙ ap (λ y. over test h l (cond (test x) y b)) (e x b (Memᴰ.head refl))

module _ (s : Sides) (ls : List ℕ) (b : List Float) (c e : ℕ) (other : c ≡ e → ⊥) (apart : Beside s c e → ⊥) (u : List Float) (x : Float) where
  value_other : value (set u e x) c ≡ value u c
  value_other = get_or-set_other u e c x nan other

  air_sum_other : air_sum s ls (set u e x) c ≡ air_sum s ls u c
  unfolding air_sum
  air_sum_other =
      over_same (is_air ls) (λ j a. a ⊕ value (set u e x) j) (λ j a. a ⊕ value u j) (around s c) +0
      (λ j a m. ap (◌⊕◌ a) (get_or-set_other u e j x nan (λ q. apart (subst (Beside s c) q m))))

  change_other : change s ls b (set u e x) c ≡ change s ls b u c
  unfolding change rest applied
  change_other = ap₂ (λ y a. (value b c ⊖ (ofℕ (degree s ls c) ⊗ y ⊖ a)) ⊘ ofℕ (degree s ls c)) value_other air_sum_other

-- ---- THE LAW
module _ (s : Sides) (ls : List ℕ) (at : ℕ → Bool) (b : List Float) where
  new : ℕ → List Float → Float
  new c u = value u c ⊕ change s ls b u c

  new_other : (c e : ℕ) → (c ≡ e → ⊥) → (Beside s c e → ⊥) → (u : List Float) (x : Float) → new c (set u e x) ≡ new c u
  unfolding new
  new_other c e other apart u x = ap₂ ◌⊕◌ (value_other s ls b c e other apart u x) (change_other s ls b c e other apart u x)

  pub relaxed_commute : (c e : ℕ) → (c ≡ e → ⊥) → (Beside s c e → ⊥) → (Beside s e c → ⊥) → (u : List Float)
      → relaxed s ls at b c (relaxed s ls at b e u) ≡ relaxed s ls at b e (relaxed s ls at b c u)
  unfolding relaxed new
  relaxed_commute c e other apart apart' u = go (at c) (at e)
    where
      go : (p q : Bool) → (let v = cond q (set u e (new e u)) u in cond p (set v c (new c v)) v) ≡ (let v = cond p (set u c (new c u)) u in cond q (set v e (new e v)) v)
      go true true =
          ap (set (set u e (new e u)) c) (new_other c e other apart u (new e u))
          ∙ set_comm u e c (new e u) (new c u) (λ q. other (sym q))
          ∙ ap (set (set u c (new c u)) e) (sym (new_other e c (λ q. other (sym q)) apart' u (new c u)))
      go true false = refl
      go false true = refl
      go false false = refl

  -- one of the two is enough: of face neighbours each is around the other
  pub relaxed_apart : sides_fit s ≡ true → (c e : ℕ) → c < cells s → e < cells s → (c ≡ e → ⊥) → (Beside s c e → ⊥) → (u : List Float)
      → relaxed s ls at b c (relaxed s ls at b e u) ≡ relaxed s ls at b e (relaxed s ls at b c u)
  relaxed_apart z c e h k other apart u = relaxed_commute c e other apart (λ m. apart (beside_sym s z e c k h m)) u

  -- the same cell twice is no matter
  pub relaxed_swap : (c e : ℕ) → (Beside s c e → ⊥) → (Beside s e c → ⊥) → (u : List Float)
      → relaxed s ls at b c (relaxed s ls at b e u) ≡ relaxed s ls at b e (relaxed s ls at b c u)
  relaxed_swap c e apart apart' u = go (ℕ_discrete c e)
    where
      go : Dec (c ≡ e) → relaxed s ls at b c (relaxed s ls at b e u) ≡ relaxed s ls at b e (relaxed s ls at b c u)
      go (yes q) = rw q
      go (no q) = relaxed_commute c e q apart apart' u
