-- Laws of children and parents: the meaning's lists of them are places, eight each, and the coarse label counts them
-- up. Assumes nothing.
use Prim.Native.Nat.{ℕ, zero, suc, ◌+◌, ◌-◌, ◌*◌, ◌/◌, ◌%◌, ◌≤◌}
use mathlib.Core.Path.{◌≡◌, refl, sym, ap, ap₂, ◌∙◌}
use mathlib.Core.Bool.{Bool, true, false, ◌||◌, cond}
use mathlib.Core.List.{List, map, zip_with}
use native.Mathlib.Omega.{arith}
use borrow.Author.Rules.{rules}
use lib.Dec.{eqb}
use Rattle.laws.specs.Loops.{up}
use Rattle.laws.specs.Lists.{tab, any}
use Rattle.laws.proofs.Loops.{Up, up_none, up_more, up_end}
use Rattle.method.specs.declared.Sides.{Sides}
use Rattle.method.specs.Cast.{axes, along, cells, label_at, is_air, is_opening}
use Rattle.method.specs.Levels.{halved, Halving, halvings, Drawn, placed, choice, choices, children, coarse_label}
use Rattle.method.specs.Transfers.{axis_weight, given_to}
use Rattle.theory.specs.Sides.{Fit, x_axis, y_axis, z_axis}
use Rattle.theory.proofs.Sizes.{halved_fit}
use Rattle.grid.specs.declared.place.Spot.{Spot}
use Rattle.grid.specs.Place.{SpotOf}
use Rattle.grid.proofs.Choices.{joined_place}
use Rattle.levels.specs.Rooms.{some}
use Rattle.levels.specs.Kin.{Near, child_at, parent_at, outrank, rank_step}
use Rattle.levels.specs.AllLabels.{CoarseAsked}
use Rattle.levels.proofs.Rooms.{any_tab, any_map}

-- ---- children
child_way : Sides → ℕ → Halving → ℕ → Drawn
child_way g c h q = placed (cells g) h.fine (2 * along h.coarse c + q + 1) 1

children_tab : (g : Sides) (c : ℕ) → children g c ≡ map (λ d. d.cell) (tab 8 (choice (cells g) 2 (child_way g c) (halvings g)))
unfolding children choices halvings axes zip_with child_way
children_tab g c = refl

child_is : (g : Sides) (c : ℕ) (s : Spot) → SpotOf (halved g) c s → (t : ℕ) → (choice (cells g) 2 (child_way g c) (halvings g) t).cell ≡ child_at g s t
unfolding choice halvings axes zip_with child_at child_way
child_is g c s p t =
    ap (λ d. d.cell) (joined_place g (2 * along (x_axis (halved g)) c + t % 2 + 1) (2 * along (y_axis (halved g)) c + t / 2 % 2 + 1) (2 * along (z_axis (halved g)) c + t / 2 / 2 % 2 + 1) 1 1 1)
    ∙ rw (← p.is_x, ← p.is_y, ← p.is_z)

pub children_some : (g : Sides) (c : ℕ) (s : Spot) → SpotOf (halved g) c s → (p : ℕ → Bool) → any p (children g c) ≡ some (λ t. p (child_at g s t)) 8
children_some g c s q p =
    ap (any p) (children_tab g c)
    ∙ any_map p (λ d. d.cell) (tab 8 (choice (cells g) 2 (child_way g c) (halvings g)))
    ∙ any_tab (λ d. p d.cell) 8 (choice (cells g) 2 (child_way g c) (halvings g))
    ∙ (λ i. some (λ t. p (child_is g c s q t i)) 8)

-- ---- parents
parent_way : Sides → ℕ → Halving → ℕ → Drawn
parent_way g c h q = placed (cells (halved g)) h.coarse ((along h.fine c + 1) / 2 + q) (axis_weight (3 - along h.fine c % 2 - 2 * q))

given_to_tab : (g : Sides) (c : ℕ) → given_to g c ≡ tab 8 (choice (cells (halved g)) 2 (parent_way g c) (halvings g))
unfolding given_to choices halvings axes zip_with parent_way
given_to_tab g c = refl

parent_is : (g : Sides) (c : ℕ) (s : Spot) → SpotOf g c s → (t : ℕ) → (choice (cells (halved g)) 2 (parent_way g c) (halvings g) t).cell ≡ parent_at (halved g) s t
unfolding choice halvings axes zip_with parent_at parent_way
parent_is g c s p t =
    ap (λ d. d.cell) (joined_place (halved g) ((along (x_axis g) c + 1) / 2 + t % 2) ((along (y_axis g) c + 1) / 2 + t / 2 % 2) ((along (z_axis g) c + 1) / 2 + t / 2 / 2 % 2) _ _ _)
    ∙ rw (← p.is_x, ← p.is_y, ← p.is_z)

pub parents_some : (g : Sides) (c : ℕ) (s : Spot) → SpotOf g c s → (p : ℕ → Bool) → any (λ d. p d.cell) (given_to g c) ≡ some (λ t. p (parent_at (halved g) s t)) 8
parents_some g c s q p =
    ap (any (λ d. p d.cell)) (given_to_tab g c)
    ∙ any_tab (λ d. p d.cell) 8 (choice (cells (halved g)) 2 (parent_way g c) (halvings g))
    ∙ (λ i. some (λ t. p (parent_is g c s q t i)) 8)

-- ---- the coarse label, counted up child by child
abbrev rank : Bool → Bool → ℕ
rank a b = cond a 1 (cond b 0 2)

outranked : (a b : Bool) (l : ℕ) → outrank (rank a b) l ≡ rank (a || eqb l 1) (b || eqb l 0)
unfolding outrank
outranked a b l = go a b (eqb l 1) (eqb l 0)
  where
    go : (a b p q : Bool) → cond (eqb (rank a b) 1) 1 (cond p 1 (cond q 0 (rank a b))) ≡ rank (a || p) (b || q)
    go true b p q = refl
    go false true true q = refl
    go false true false true = refl
    go false true false false = refl
    go false false true q = refl
    go false false false true = refl
    go false false false false = refl

ranked : (ls : List ℕ) (g : Sides) (s : Spot) (t : ℕ)
    → up (rank_step ls g s) t 2 ≡ rank (some (λ t. is_opening ls (child_at g s t)) t) (some (λ t. is_air ls (child_at g s t)) t)
unfolding up some is_opening is_air
ranked ls g s zero = refl
ranked ls g s (suc t) =
    ap (λ a. outrank a (label_at ls (child_at g s t))) (ranked ls g s t)
    ∙ outranked (some (λ t. is_opening ls (child_at g s t)) t) (some (λ t. is_air ls (child_at g s t)) t) (label_at ls (child_at g s t))

label_is : (g : Sides) (ls : List ℕ) (c : ℕ) (s : Spot) → SpotOf (halved g) c s → up (rank_step ls g s) 8 2 ≡ coarse_label g ls c
unfolding coarse_label
label_is g ls c s p = ranked ls g s 8 ∙ sym (ap₂ rank (children_some g c s p (is_opening ls)) (children_some g c s p (is_air ls)))

-- ---- what the functions ask
pub step_is : (ls : List ℕ) (a j k : ℕ) {l r : ℕ} → j ≡ k → l ≡ label_at ls j → r ≡ outrank a l → r ≡ outrank a (label_at ls k)
step_is ls a j k e f h = cc

pub asked_fit : (g h : Sides) (n c : ℕ) → CoarseAsked g h n c → Fit h
asked_fit g h n c a = rw a.next (halved_fit g a.fine)

pub spot_near : (g : Sides) (c : ℕ) (s : Spot) → Fit g → SpotOf g c s → Near s
spot_near g c s z p = record { x_near = omega arith; y_near = omega arith; z_near = omega arith }

pub label_end : (g h : Sides) (n c : ℕ) (ls : List ℕ) (s : Spot) (t r : ℕ) → CoarseAsked g h n c → SpotOf h c s
    → t ≤ 8 → 8 ≤ t → Up (rank_step ls g s) 2 t r → r ≡ coarse_label g ls c
label_end g h n c ls s t r a p u v w = up_end 8 w u v ∙ label_is g ls c s (rw a.next at p)

pub ruleset ranks = (rules, up_none, up_more, step_is, asked_fit, spot_near, label_end)
