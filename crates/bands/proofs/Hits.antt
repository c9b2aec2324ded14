-- Laws of module `band`: a search among parents and their children that is left at the first hit. Assumes nothing.
use Prim.Native.Nat.{ℕ, ◌+◌, ◌*◌, ◌≤◌, ◌<◌}
use mathlib.Core.Path.{◌≡◌, refl, sym, ap, ap₂, ◌∙◌}
use mathlib.Core.Bool.{Bool, true, false, not, ◌&&◌, ◌||◌}
use mathlib.Core.List.{List}
use native.Mathlib.Omega.{arith}
use borrow.Author.Rules.{rules}
use borrow.Author.Tests.{eq-eqb, ne_eqb, le-leb, lt-leb, leb-true, leb-false}
use lib.Dec.{eqb, leb}
use lib.ListN.{length, get_or}
use Rattle.laws.specs.Lists.{any}
use Rattle.method.specs.declared.Sides.{Sides}
use Rattle.method.specs.Cast.{cells, label_at, is_air}
use Rattle.method.specs.Levels.{halved, children}
use Rattle.method.specs.Transfers.{given_to}
use Rattle.method.specs.Cycle.{has_other, in_band}
use Rattle.theory.specs.Sides.{Fit}
use Rattle.theory.proofs.Sizes.{halved_fit}
use Rattle.grid.specs.declared.place.Spot.{Spot}
use Rattle.grid.specs.Place.{SpotOf}
use Rattle.grid.proofs.Steps.{label_in}
use Rattle.levels.specs.Rooms.{some}
use Rattle.levels.specs.Kin.{child_at, parent_at, parent_spot, child_step}
use Rattle.bands.specs.Other.{child_other, parent_other, corner_of, BandAsked, BlockAsked, AroundAsked}
use Rattle.levels.proofs.Rooms.{None, none_none, none_more, none_end, some_hit}
use Rattle.levels.proofs.Kin.{children_some, parents_some, spot_near}
use Rattle.bands.proofs.Blocks.{parent_begun, parent_spot_lem, parent_near, block_child, block_inside, block_parent}

pub other_is : (ls : List ℕ) (g : Sides) (s : Spot) (t j l : ℕ) → j ≡ child_at g s t → l ≡ label_at ls j → not (eqb l 0) ≡ child_other ls g s t
unfolding child_other is_air
other_is ls g s t j l e f = ap (λ x. not (eqb x 0)) (f ∙ ap (label_at ls) e)

-- ---- what the meaning says, by the two tests of the code
outside_has : (g : Sides) (ls : List ℕ) (d : ℕ) → cells (halved g) ≤ d → has_other g ls d ≡ true
unfolding has_other
outside_has g ls d h = ap (λ b. b || any (λ j. not (is_air ls j)) (children g d)) (le-leb (cells (halved g)) d h)

inside_has : (g : Sides) (ls : List ℕ) (d : ℕ) (k : Spot) → d < cells (halved g) → SpotOf (halved g) d k → has_other g ls d ≡ some (child_other ls g k) 8
unfolding has_other child_other
inside_has g ls d k h p = ap₂ ◌||◌ (lt-leb (cells (halved g)) d h) (children_some g d k p (λ j. not (is_air ls j)))

no_air : (g : Sides) (ls : List ℕ) (c : ℕ) → (label_at ls c ≡ 0 → ⊥) → in_band g ls c ≡ false
unfolding in_band is_air
no_air g ls c h = ap (λ b. b && any (λ d. has_other g ls d.cell) (given_to g c)) (ne_eqb (label_at ls c) 0 h)

air : (g : Sides) (ls : List ℕ) (c : ℕ) (s : Spot) → label_at ls c ≡ 0 → SpotOf g c s → in_band g ls c ≡ some (parent_other ls g (halved g) s) 8
unfolding in_band is_air parent_other
air g ls c s h p = ap₂ ◌&&◌ (eq-eqb (label_at ls c) 0 h) (parents_some g c s p (has_other g ls))

-- ---- as the loops ask it
pub band_no : (g : Sides) (ls : List ℕ) (c l : ℕ) → l ≡ label_at ls c → (l ≡ 0 → ⊥) → false ≡ in_band g ls c
band_no g ls c l e h = sym (no_air g ls c (λ f. h (e ∙ f)))

pub band_asked_around : (g h : Sides) (n m c : ℕ) (s : Spot) → BandAsked g h n m c → SpotOf g c s → AroundAsked g h n m s
band_asked_around g h n m c s a p = record { fine = a.fine; next = a.next; count = a.count; coarse_count = a.coarse_count; near = spot_near g c s a.fine p }

pub band_asked_block : (g h : Sides) (n m c first labels : ℕ) (s : Spot) → BandAsked g h n m c → first ≡ corner_of g s → first < n → n ≤ labels → BlockAsked g s first labels
band_asked_block g h n m c first labels s a e l k = record { fine = a.fine; is = e; inside = omega (arith, a.count); full = omega (arith, a.count) }

-- an air cell is in the band where some coarse cell that gives to it has a child that isn't air
pub band_some : (g h : Sides) (n m c : ℕ) (s : Spot) (ls : List ℕ) (l : ℕ) (r : Bool) → BandAsked g h n m c → l ≡ label_at ls c → l ≡ 0 → SpotOf g c s
    → r ≡ some (parent_other ls g h s) 8 → r ≡ in_band g ls c
band_some g h n m c s ls l r a f z w e = e ∙ sym (rw a.next (air g ls c s (sym f ∙ z) w))

-- the same with the next level's sides written out
pub band_block : (g : Sides) (c : ℕ) (s : Spot) (ls : List ℕ) (l : ℕ) (r : Bool) → l ≡ label_at ls c → l ≡ 0 → SpotOf g c s
    → r ≡ some (parent_other ls g (halved g) s) 8 → r ≡ in_band g ls c
band_block g c s ls l r f z w e = e ∙ sym (air g ls c s (sym f ∙ z) w)

-- the q-th parent's children are asked one by one, where it is inside
has_some : (g h : Sides) (ls : List ℕ) (d : ℕ) (k : Spot) → h ≡ halved g → d < cells h → SpotOf h d k → has_other g ls d ≡ some (child_other ls g k) 8
has_some g h ls d k e l p = inside_has g ls d k (rw e at l) (rw e at p)

parent_some : (g h : Sides) (ls : List ℕ) (s : Spot) (q : ℕ) (k : Spot) → h ≡ halved g → parent_at h s q < cells h → k ≡ parent_spot s q
    → parent_other ls g h s q ≡ some (child_other ls g k) 8
unfolding parent_other
parent_some g h ls s q k e l p = has_some g h ls (parent_at h s q) k e l (parent_spot_lem h q s k l p)

pub some_none : {p : ℕ → Bool} (q : ℕ) → q ≤ 8 → 8 ≤ q → None p q → false ≡ some p 8
some_none q u v o = sym (none_end 8 o u v)

pub some_here : (p : ℕ → Bool) (q : ℕ) (r : Bool) → q < 8 → r ≡ p q → r ≡ true → true ≡ some p 8
some_here p q r b e f = sym (some_hit p q 8 b (sym e ∙ f))

-- ---- where the block around the cell is in the box
module _ (g : Sides) (s : Spot) (first labels : ℕ) (a : BlockAsked g s first labels) (ls : List ℕ) (q : ℕ) where
  block_some : parent_other ls g (halved g) s q ≡ some (child_other ls g (parent_spot s q)) 8
  block_some = parent_some g (halved g) ls s q (parent_spot s q) refl (block_parent g s first labels a q) refl

  pub block_none : (t : ℕ) → None (child_other ls g (parent_spot s q)) t → t ≤ 8 → 8 ≤ t → false ≡ parent_other ls g (halved g) s q
  block_none t i u v = sym (block_some ∙ none_end 8 i u v)

  pub block_hit : (t : ℕ) (r : Bool) → t < 8 → r ≡ child_other ls g (parent_spot s q) t → r ≡ true → true ≡ parent_other ls g (halved g) s q
  block_hit t r b i j = sym (block_some ∙ some_hit (child_other ls g (parent_spot s q)) t 8 b (sym i ∙ j))

pub block_other_is : (g : Sides) (s : Spot) (first : ℕ) (ls : List ℕ) → BlockAsked g s first (length ls) → (q t i j : ℕ) → i ≡ child_step g q → j ≡ child_step g t
    → not (eqb (get_or ls (first + 2 * i + j) 0) 0) ≡ child_other ls g (parent_spot s q) t
block_other_is g s first ls a q t i j e f = rw (e, f) (other_is ls g (parent_spot s q) t (first + 2 * child_step g q + child_step g t) _ (block_child g s first (length ls) a q t)
    (label_in ls (first + 2 * child_step g q + child_step g t) (block_inside g s first (length ls) a q t)))

pub block_at : (g : Sides) (s : Spot) (first labels : ℕ) → BlockAsked g s first labels → (q t i j : ℕ) → i ≡ child_step g q → j ≡ child_step g t → first + 2 * i + j < labels
block_at g s first labels a q t i j e f = rw (e, f) (block_inside g s first labels a q t)

pub ruleset on_blocks = (rules, none_none, none_more, some_none, some_here, block_none, block_hit, block_other_is, block_at)

-- ---- wherever they are
pub coarse_fit : (g h : Sides) (n m : ℕ) (s : Spot) → AroundAsked g h n m s → Fit h
coarse_fit g h n m s a = rw a.next (halved_fit g a.fine)

module _ (g h : Sides) (n m : ℕ) (s : Spot) (a : AroundAsked g h n m s) (ls : List ℕ) (q : ℕ) (o : Bool) (e : o ≡ leb (cells h) (parent_at h s q)) where
  -- the q-th parent is outside, or its children are asked one by one
  pub around_outside : o ≡ true → true ≡ parent_other ls g h s q
  unfolding parent_other
  around_outside f = sym (outside_has g ls (parent_at h s q) (leb-true _ _ (rw (← a.next) (sym e ∙ f))))

  module _ (f : o ≡ false) (k : Spot) (p : k ≡ parent_spot s q) where
    inside : parent_other ls g h s q ≡ some (child_other ls g k) 8
    inside = parent_some g h ls s q k a.next (leb-false _ _ (sym e ∙ f)) p

    pub around_none : (t : ℕ) → None (child_other ls g k) t → t ≤ 8 → 8 ≤ t → false ≡ parent_other ls g h s q
    around_none t i u v = sym (inside ∙ none_end 8 i u v)

    pub around_hit : (t : ℕ) (r : Bool) → t < 8 → r ≡ child_other ls g k t → r ≡ true → true ≡ parent_other ls g h s q
    around_hit t r b i j = sym (inside ∙ some_hit (child_other ls g k) t 8 b (sym i ∙ j))

pub ruleset hits = (rules, none_none, none_more, other_is, coarse_fit, parent_begun, parent_near, some_none, some_here, around_outside, around_none, around_hit)

pub ruleset in_bands = (rules, band_no, band_some, band_block, band_asked_around, band_asked_block, spot_near)
