-- What holds of a cast holds of every level of it: a label for each cell, a walk to an opening from each air cell, an
-- opening. Assumes nothing.
use mathlib.Core.Path.{◌≡◌, refl, sym, ap}
use mathlib.Core.Logic.{◌⊎◌, inl, inr, ⊎_elim}
use mathlib.Core.Bool.{true}
use mathlib.Core.List.{List}
use Prim.Native.Nat.{ℕ, zero, suc, ◌+◌, ◌-◌, ◌*◌, ◌/◌, ◌≤◌, ◌<◌}
use native.Mathlib.Omega.{arith}
use native.Mathlib.Decide.{ℕ_discrete}
use lib.ListN.{length}
use borrow.Author.Tests.{ne_eqb}
use Rattle.method.specs.declared.Sides.{Sides}
use Rattle.method.specs.Cast.{cells, label_at, no_wall, is_air, judged, degree, interior, sides_fit}
use Rattle.method.specs.Levels.{half, halved, coarse_label, coarse}
use Rattle.theory.specs.Walks.{Beside, Walk, last, step}
use Rattle.theory.specs.Levels.{sides_at, labels_at, air_before}
use Rattle.laws.proofs.Bools.{is_true}
use Rattle.laws.proofs.Lists.{length_tab}
use Rattle.theory.proofs.Counting.{over_more, counted_lt}
use Rattle.theory.specs.Sides.{Fit}
use Rattle.theory.proofs.Sides.{fit}
use Rattle.theory.proofs.Reach.{clear_test, walk_air, in_box_lem}
use Rattle.theory.proofs.Sizes.{fit_at, cells_halved, cells_least}
use Rattle.theory.proofs.Places.{Spot, Step, Face, spot_of, spot_same, beside_near, near_beside}
use Rattle.theory.proofs.Children.{opening_up, air_up, air_down}

pub coarse_length : (s : Sides) (ls : List ℕ) → length (coarse s ls) ≡ cells (halved s)
unfolding coarse
coarse_length s ls = length_tab (cells (halved s)) (coarse_label s ls)

-- every level has a label for each of its cells
pub length_kept : (s : Sides) (ls : List ℕ) → length ls ≡ cells s → (l : ℕ) → length (labels_at s ls l) ≡ cells (sides_at s l)
unfolding labels_at sides_at
length_kept s ls e zero = e
length_kept s ls e (suc l) = coarse_length (sides_at s l) (labels_at s ls l)

-- a cell that has a walk has a neighbour that is no wall
pub degree_positive : {s : Sides} {ls : List ℕ} {i k : ℕ} → Walk s ls i k → 1 ≤ degree s ls i
unfolding degree
degree_positive {s} {ls} (last {j = j} a b o) = over_more (no_wall ls) _ 0 j b (is_true (no_wall ls j) (clear_test ls j (omega arith)))
degree_positive {s} {ls} (step {j = j} a b w) = over_more (no_wall ls) _ 0 j b (is_true (no_wall ls j) (clear_test ls j (omega (arith, walk_air w))))

-- ---- one halving
-- an opening, or a cell with a walk to one
abbrev Out : Sides → List ℕ → ℕ → Type 0
Out s ls i = (label_at ls i ≡ 1) ⊎ ((k : ℕ) × Walk s ls i k)

further : {s : Sides} {ls : List ℕ} {i j : ℕ} → label_at ls i ≡ 0 → Beside s i j → Out s ls j → Out s ls i
further a b (inl o) = inr (1, last a b o)
further a b (inr w) = inr (suc w.0, step a b w.1)

-- half a step is a step or none
half_step : (a b : ℕ) → Step a b → (a / 2 ≡ b / 2) ⊎ Step (a / 2) (b / 2)
half_step a b (inl e) = go (ℕ_discrete (a / 2) (b / 2))
  where
    go : Dec (a / 2 ≡ b / 2) → (a / 2 ≡ b / 2) ⊎ Step (a / 2) (b / 2)
    go (yes h) = inl h
    go (no h) = inr (inl (omega arith))
half_step a b (inr e) = go (ℕ_discrete (a / 2) (b / 2))
  where
    go : Dec (a / 2 ≡ b / 2) → (a / 2 ≡ b / 2) ⊎ Step (a / 2) (b / 2)
    go (yes h) = inl h
    go (no h) = inr (inr (omega arith))

halves : {a b : ℕ} → a ≡ b → a / 2 ≡ b / 2
halves e = ap (λ k. k / 2) e

half_face : (x y z x' y' z' : ℕ) → Face x y z x' y' z'
    → ((x / 2 ≡ x' / 2) × (y / 2 ≡ y' / 2) × (z / 2 ≡ z' / 2)) ⊎ Face (x / 2) (y / 2) (z / 2) (x' / 2) (y' / 2) (z' / 2)
half_face x y z x' y' z' (inl (e, f, g)) = ⊎_elim (λ h. inl (h, halves f, halves g)) (λ h. inr (inl (h, halves f, halves g))) (half_step x x' e)
half_face x y z x' y' z' (inr (inl (e, f, g))) = ⊎_elim (λ h. inl (halves e, h, halves g)) (λ h. inr (inr (inl (halves e, h, halves g)))) (half_step y y' f)
half_face x y z x' y' z' (inr (inr (e, f, g))) = ⊎_elim (λ h. inl (halves e, halves f, h)) (λ h. inr (inr (inr (halves e, halves f, h)))) (half_step z z' g)

-- the coarse cell at half the coordinates
over_spot : (s : Sides) (c x y z : ℕ) → Spot s c x y z → (d : ℕ) × Spot (halved s) d (x / 2) (y / 2) (z / 2)
unfolding halved half
over_spot s c x y z p = (
  x / 2 + (halved s).nx * (y / 2 + (halved s).ny * (z / 2)),
  record { x_in = omega (arith, p.x_in); y_in = omega (arith, p.y_in); z_in = omega (arith, p.z_in); is = refl },
)

module _ (s : Sides) (ls : List ℕ) (long : length ls ≡ cells s) where
  -- a step between fine cells is a step between the coarse ones, or none
  across : (i x y z d : ℕ) → Spot s i x y z → Spot (halved s) d (x / 2) (y / 2) (z / 2) → label_at ls i ≡ 0 → (j : ℕ) → Beside s i j → j < cells s
      → ((x' y' z' e : ℕ) → Spot s j x' y' z' → Spot (halved s) e (x' / 2) (y' / 2) (z' / 2) → Out (halved s) (coarse s ls) e)
      → Out (halved s) (coarse s ls) d
  across i x y z d p q a j b h f =
      let n = beside_near s i x y z p j h b in
      let e = over_spot s j n.0 n.1 n.2 n.3 in
      let o = f n.0 n.1 n.2 e.0 n.3 e.1 in
      ⊎_elim inl (λ a'. ⊎_elim
      (λ r. f n.0 n.1 n.2 d n.3 (spot_same q r.0 r.1 r.2))
      (λ r. further a' (near_beside (halved s) d (x / 2) (y / 2) (z / 2) q e.0 (n.0 / 2) (n.1 / 2) (n.2 / 2) e.1 r) o)
      (half_face x y z n.0 n.1 n.2 n.4))
      (air_up s ls d (x / 2) (y / 2) (z / 2) q i x y z p refl refl refl a)

  -- a walk in the cast is a walk on the next level, or leads to an opening sooner
  lift : {i k : ℕ} → Walk s ls i k → (x y z d : ℕ) → Spot s i x y z → Spot (halved s) d (x / 2) (y / 2) (z / 2) → Out (halved s) (coarse s ls) d
  lift (last {i = i} {j = j} a b o) x y z d p q = across i x y z d p q a j b (in_box_lem (cells s) ls long j (omega arith))
      (λ x' y' z' e p' q'. inl (opening_up s ls e (x' / 2) (y' / 2) (z' / 2) q' j x' y' z' p' refl refl refl o))
  lift (step {i = i} {j = j} a b w) x y z d p q = across i x y z d p q a j b (in_box_lem (cells s) ls long j (omega (arith, walk_air w))) (lift w)

  walks_halved : ((i : ℕ) → label_at ls i ≡ 0 → (k : ℕ) × Walk s ls i k) → (d : ℕ) → label_at (coarse s ls) d ≡ 0 → (k : ℕ) × Walk (halved s) (coarse s ls) d k
  walks_halved f d a =
      let p = spot_of (halved s) d (in_box_lem (cells (halved s)) (coarse s ls) (coarse_length s ls) d (omega arith)) in
      let c = air_down s ls d _ _ _ p long a in
      ⊎_elim (λ o. absurd (omega arith)) (λ w. w)
      (lift (f c.0 c.8).1 c.1 c.2 c.3 d c.4 (spot_same p (sym c.5) (sym c.6) (sym c.7)))

  opening_halved : (j : ℕ) → label_at ls j ≡ 1 → (d : ℕ) × (label_at (coarse s ls) d ≡ 1)
  opening_halved j o =
      let p = spot_of s j (in_box_lem (cells s) ls long j (omega arith)) in
      let q = over_spot s j _ _ _ p in
      (q.0, opening_up s ls q.0 _ _ _ q.1 j _ _ _ p refl refl refl o)

-- ---- every level
-- on every level each air cell has a walk to an opening
pub walks_kept : (s : Sides) (ls : List ℕ) → sides_fit s ≡ true → length ls ≡ cells s → ((i : ℕ) → label_at ls i ≡ 0 → (k : ℕ) × Walk s ls i k)
    → (l i : ℕ) → label_at (labels_at s ls l) i ≡ 0 → (k : ℕ) × Walk (sides_at s l) (labels_at s ls l) i k
unfolding sides_at labels_at
walks_kept s ls fits long w zero = w
walks_kept s ls fits long w (suc l) = walks_halved (sides_at s l) (labels_at s ls l) (length_kept s ls long l) (walks_kept s ls fits long w l)

walk_end : {s : Sides} {ls : List ℕ} {i k : ℕ} → Walk s ls i k → (j : ℕ) × (label_at ls j ≡ 1)
walk_end (last {j = j} a b o) = (j, o)
walk_end (step a b w) = walk_end w

some_opening : (s : Sides) (ls : List ℕ) → length ls ≡ cells s → (j : ℕ) → label_at ls j ≡ 1 → (l : ℕ) → (d : ℕ) × (label_at (labels_at s ls l) d ≡ 1)
unfolding sides_at labels_at
some_opening s ls long j o zero = (j, o)
some_opening s ls long j o (suc l) = let r = some_opening s ls long j o l in
    opening_halved (sides_at s l) (labels_at s ls l) (length_kept s ls long l) r.0 r.1

-- if there is an air cell, every level has an opening
pub opening_kept : (s : Sides) (ls : List ℕ) → sides_fit s ≡ true → length ls ≡ cells s → ((i : ℕ) → label_at ls i ≡ 0 → (k : ℕ) × Walk s ls i k)
    → (i₀ : ℕ) → label_at ls i₀ ≡ 0 → (l : ℕ) → (j : ℕ) × (j < cells (sides_at s l)) × (label_at (labels_at s ls l) j ≡ 1)
opening_kept s ls fits long w i₀ a l =
    let e = walk_end (w i₀ a).1 in
    let r = some_opening s ls long e.0 e.1 l in
    (r.0, in_box_lem (cells (sides_at s l)) (labels_at s ls l) (length_kept s ls long l) r.0 (omega arith), r.1)

-- an opening is no air cell
interior_lt : (s : Sides) (ls : List ℕ) (j : ℕ) → j < cells s → label_at ls j ≡ 1 → interior s ls < cells s
unfolding interior judged is_air
interior_lt s ls j h o = counted_lt (judged ls) (cells s) j h (ne_eqb (label_at ls j) 0 (λ e. omega arith))

air_running : (s : Sides) (ls : List ℕ) → Fit s → ((l : ℕ) → (j : ℕ) × (j < cells (sides_at s l)) × (label_at (labels_at s ls l) j ≡ 1))
    → (l : ℕ) → air_before s ls l + 2 * cells (sides_at s l) ≤ 2 * cells s
unfolding air_before sides_at
air_running s ls size f zero = omega arith
air_running s ls size f (suc l) = omega (
  arith,
  air_running s ls size f l,
  cells_halved (sides_at s l) (fit_at s size l),
  interior_lt (sides_at s l) (labels_at s ls l) (f l).0 (f l).1 (f l).2,
)

-- six levels, or any number, have together at most as many air cells as twice the cells of the first, less two
pub air_of_six : (s : Sides) (ls : List ℕ) → sides_fit s ≡ true → length ls ≡ cells s → ((i : ℕ) → label_at ls i ≡ 0 → (k : ℕ) × Walk s ls i k)
    → (i₀ : ℕ) → label_at ls i₀ ≡ 0 → (l : ℕ) → air_before s ls l ≤ 2 * cells s - 2
air_of_six s ls fits long w i₀ a l =
    let size : Fit s = fit s fits in
    omega (arith, air_running s ls size (opening_kept s ls fits long w i₀ a) l, cells_least (sides_at s l) (fit_at s size l))
