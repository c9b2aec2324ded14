-- Laws of module `band`: a coarse cell's coordinates and its children's numbers, without a division and from the first
-- child. Assumes nothing.
use Prim.Native.Nat.{ℕ, ◌+◌, ◌-◌, ◌*◌, ◌/◌, ◌%◌, ◌≤◌, ◌<◌}
use mathlib.Core.Path.{◌≡◌, refl, sym, ap, ap₂, ◌∙◌}
use mathlib.Core.Bool.{Bool, true, false, ◌&&◌, cond}
use native.Mathlib.Nat.{mul-le-mul, lt_irrefl}
use native.Mathlib.Omega.{arith}
use borrow.Author.Rules.{rules}
use borrow.Author.Tests.{ltb-true, leb-true, leb-false}
use lib.Dec.{ltb, leb}
use mir.Syntax.{w64}
use mir.Val.{Fits}
use Rattle.laws.proofs.Bools.{so}
use Rattle.method.specs.declared.Sides.{Sides}
use Rattle.method.specs.Cast.{cells, number}
use Rattle.method.specs.Levels.{half, halved}
use Rattle.theory.specs.Sides.{Fit}
use Rattle.theory.proofs.Numbers.{number_in, number_coordinates}
use Rattle.grid.specs.declared.place.Spot.{Spot}
use Rattle.grid.specs.Place.{SpotOf, in_box, place_at}
use Rattle.grid.proofs.Laws.{small_two, small_three, place_inside}
use Rattle.levels.specs.Kin.{Near, Begun, child_at, parent_at, parent_spot, whole_in, first_child, child_step}
use Rattle.bands.specs.Other.{four_in, block_in, corner_of, BlockAsked}

-- ---- tests that pass together, and a choice that is below the one it has not taken
left : (a b : Bool) → (a && b) ≡ true → a ≡ true
left true b e = refl
left false b e = e

right : (a b : Bool) → (a && b) ≡ true → b ≡ true
right true b e = e
right false b e = absurd (so {b = false} e)

taken : (b : Bool) (i n : ℕ) → cond b i n < n → b ≡ true
taken true i n l = refl
taken false i n l = absurd (lt_irrefl n l)

-- ---- a place that is a cell
record Placed (g : Sides) (a b e : ℕ) : Type 0 where
  x_low : 0 < a
  x_in : a ≤ g.nx
  y_low : 0 < b
  y_in : b ≤ g.ny
  z_low : 0 < e
  z_in : e ≤ g.nz

placed_in : (g : Sides) (a b e : ℕ) → place_at g a b e < cells g → Placed g a b e
unfolding place_at
placed_in g a b e l =
    let p1 = taken (in_box g a b e) (number g (a - 1) (b - 1) (e - 1)) (cells g) l in
    let p2 = right (ltb 0 a) _ p1 in
    let p3 = right (leb a g.nx) _ p2 in
    let p4 = right (ltb 0 b) _ p3 in
    let p5 = right (leb b g.ny) _ p4 in
    record {
      x_low = ltb-true 0 a (left (ltb 0 a) _ p1);
      x_in = leb-true a g.nx (left (leb a g.nx) _ p2);
      y_low = ltb-true 0 b (left (ltb 0 b) _ p3);
      y_in = leb-true b g.ny (left (leb b g.ny) _ p4);
      z_low = ltb-true 0 e (left (ltb 0 e) _ p5);
      z_in = leb-true e g.nz (right (ltb 0 e) _ p5);
    }

placed_spot : (g : Sides) (a b e : ℕ) → place_at g a b e < cells g → SpotOf g (place_at g a b e) (record { x = a - 1; y = b - 1; z = e - 1 })
placed_spot g a b e l =
    let p = placed_in g a b e l in
    let at : number g (a - 1) (b - 1) (e - 1) ≡ place_at g a b e = place_inside g a b e _ (p.x_low, p.x_in) (p.y_low, p.y_in) (p.z_low, p.z_in) refl in
    let i : a - 1 < g.nx = omega (arith, p.x_low, p.x_in) in
    let j : b - 1 < g.ny = omega (arith, p.y_low, p.y_in) in
    let k : e - 1 < g.nz = omega (arith, p.z_low, p.z_in) in
    let q = number_coordinates g (a - 1) (b - 1) (e - 1) i j k in
    rw (← at) (record { is_x = sym q.at_x; is_y = sym q.at_y; is_z = sym q.at_z; in_x = i; in_y = j; in_z = k })

-- ---- the q-th parent: whether it is outside, and where it is a cell
pub outside_is : (m d n e : ℕ) → m ≡ n → d ≡ e → leb m d ≡ leb n e
outside_is m d n e f h = ap₂ leb f h

pub parent_begun : (h : Sides) (q : ℕ) (s : Spot) (r : Bool) → r ≡ leb (cells h) (parent_at h s q) → r ≡ false → Begun s q
unfolding parent_at
parent_begun h q s r e f =
    let p = placed_in h ((s.x + 1) / 2 + q % 2) ((s.y + 1) / 2 + q / 2 % 2) ((s.z + 1) / 2 + q / 2 / 2 % 2) (leb-false _ _ (sym e ∙ f)) in
    record { x_begun = p.x_low; y_begun = p.y_low; z_begun = p.z_low }

pub parent_spot_lem : (h : Sides) (q : ℕ) (s k : Spot) → parent_at h s q < cells h → k ≡ parent_spot s q → SpotOf h (parent_at h s q) k
unfolding parent_at parent_spot
parent_spot_lem h q s k l f = rw f (placed_spot h ((s.x + 1) / 2 + q % 2) ((s.y + 1) / 2 + q / 2 % 2) ((s.z + 1) / 2 + q / 2 / 2 % 2) l)

spot_low : (s : Spot) (q : ℕ) → Near s → Near (parent_spot s q)
unfolding parent_spot
spot_low s q z = record { x_near = omega (arith, z.x_near); y_near = omega (arith, z.y_near); z_near = omega (arith, z.z_near) }

pub parent_near : (s k : Spot) (q : ℕ) → Near s → k ≡ parent_spot s q → Near k
parent_near s k q z e = rw e (spot_low s q z)

-- ---- how far the other children are from the first
moved : (g : Sides) (x y z a b c : ℕ) → number g x y z + (a + b * g.nx + c * (g.nx * g.ny)) ≡ number g (x + a + 1 - 1) (y + b + 1 - 1) (z + c + 1 - 1)
unfolding number
moved g x y z a b c =
    let i : x + a + 1 - 1 ≡ x + a = omega arith in
    let j : y + b + 1 - 1 ≡ y + b = omega arith in
    let k : z + c + 1 - 1 ≡ z + c = omega arith in
    rw (i, j, k) (omega arith)

from_first : (g : Sides) (s : Spot) (t : ℕ) → first_child g s < cells g → first_child g s + child_step g t ≡ child_at g s t
unfolding first_child whole_in child_step child_at
from_first g s t l =
    let n1 : ℕ = number g (2 * s.x) (2 * s.y) (2 * s.z) in
    let p = taken (whole_in g s) n1 (cells g) l in
    let q = right (ltb (2 * s.x + 1) g.nx) _ p in
    let i : 2 * s.x + 1 < g.nx = ltb-true _ _ (left (ltb (2 * s.x + 1) g.nx) _ p) in
    let j : 2 * s.y + 1 < g.ny = ltb-true _ _ (left (ltb (2 * s.y + 1) g.ny) _ q) in
    let k : 2 * s.z + 1 < g.nz = ltb-true _ _ (right (ltb (2 * s.y + 1) g.ny) _ q) in
    place_inside g (2 * s.x + t % 2 + 1) (2 * s.y + t / 2 % 2 + 1) (2 * s.z + t / 2 / 2 % 2 + 1) _ (omega arith, omega arith) (omega arith, omega arith) (omega arith, omega arith)
    (ap (λ b. cond b n1 (cells g) + (t % 2 + t / 2 % 2 * g.nx + t / 2 / 2 % 2 * (g.nx * g.ny))) p ∙ moved g (2 * s.x) (2 * s.y) (2 * s.z) (t % 2) (t / 2 % 2) (t / 2 / 2 % 2))

pub child_near : (g : Sides) (n : ℕ) (s : Spot) (i t j : ℕ) → n ≡ cells g → i ≡ first_child g s → i < n → j ≡ child_step g t → i + j ≡ child_at g s t
child_near g n s i t j f e l h = rw (e, h) (from_first g s t (rw (← e, ← f) l))

pub near_fits : (g : Sides) (n i j : ℕ) → Fit g → n ≡ cells g → i < n → j ≤ 1057 → Fits w64 (i + j)
unfolding cells
near_fits g n i j z f l h = record { fits = omega (arith, small_three g.nx g.ny g.nz z.nx_32 z.ny_32 z.nz_32, f, l, h) }

-- ---- the block around a cell
record Four (x side : ℕ) : Type 0 where
  low : 0 < x
  high : 2 * x + 1 < side

axis_in : (a q t side : ℕ) → 0 < a → 2 * a + 1 < side → (0 < 2 * (a + q % 2 - 1) + t % 2 + 1) × (2 * (a + q % 2 - 1) + t % 2 + 1 ≤ side)
axis_in a q t side l h = (omega arith, omega arith)

axis_same : (a q t : ℕ) → 0 < a → 2 * (a - 1) + (2 * (q % 2) + t % 2) + 1 - 1 ≡ 2 * (a + q % 2 - 1) + t % 2 + 1 - 1
axis_same a q t l = omega arith

axis_below : (a q t side : ℕ) → 0 < a → 2 * a + 1 < side → 2 * (a - 1) + (2 * (q % 2) + t % 2) + 1 - 1 < side
axis_below a q t side l h = omega arith

axis_half : (a q side : ℕ) → 0 < a → 2 * a + 1 < side → (0 < a + q % 2) × (a + q % 2 ≤ (side + 1) / 2)
axis_half a q side l h = (omega arith, omega arith)

four_of_lem : (x side : ℕ) → four_in x side ≡ true → Four x side
unfolding four_in
four_of_lem x side h = record { low = ltb-true 0 x (left (ltb 0 x) _ h); high = ltb-true (2 * x + 1) side (right (ltb 0 x) _ h) }

module _ (g : Sides) (s : Spot) where
  abbrev X : ℕ
  X = (s.x + 1) / 2

  abbrev Y : ℕ
  Y = (s.y + 1) / 2

  abbrev Z : ℕ
  Z = (s.z + 1) / 2

  module _ (first labels : ℕ) (a : BlockAsked g s first labels) where
    all_in : block_in g s ≡ true
    unfolding corner_of
    all_in = taken (block_in g s) (number g (2 * (X - 1)) (2 * (Y - 1)) (2 * (Z - 1))) (cells g) (rw (← a.is) a.inside)

    begins : first ≡ number g (2 * (X - 1)) (2 * (Y - 1)) (2 * (Z - 1))
    unfolding corner_of
    begins = a.is ∙ ap (λ b. cond b (number g (2 * (X - 1)) (2 * (Y - 1)) (2 * (Z - 1))) (cells g)) all_in

    in_x : Four X g.nx
    unfolding block_in
    in_x = four_of_lem X g.nx (left (four_in X g.nx) _ all_in)

    in_y : Four Y g.ny
    unfolding block_in
    in_y = four_of_lem Y g.ny (left (four_in Y g.ny) _ (right (four_in X g.nx) _ all_in))

    in_z : Four Z g.nz
    unfolding block_in
    in_z = four_of_lem Z g.nz (right (four_in Y g.ny) _ (right (four_in X g.nx) _ all_in))

    -- the t-th child of the q-th coarse cell
    block_number : (q t : ℕ) → first + 2 * child_step g q + child_step g t
        ≡ number g (2 * (X - 1) + (2 * (q % 2) + t % 2) + 1 - 1) (2 * (Y - 1) + (2 * (q / 2 % 2) + t / 2 % 2) + 1 - 1) (2 * (Z - 1) + (2 * (q / 2 / 2 % 2) + t / 2 / 2 % 2) + 1 - 1)
    unfolding child_step
    block_number q t =
        let p : first + 2 * (q % 2 + q / 2 % 2 * g.nx + q / 2 / 2 % 2 * (g.nx * g.ny)) + (t % 2 + t / 2 % 2 * g.nx + t / 2 / 2 % 2 * (g.nx * g.ny))
        ≡ first + (2 * (q % 2) + t % 2 + (2 * (q / 2 % 2) + t / 2 % 2) * g.nx + (2 * (q / 2 / 2 % 2) + t / 2 / 2 % 2) * (g.nx * g.ny)) = omega arith in
        p ∙ ap (λ k. k + (2 * (q % 2) + t % 2 + (2 * (q / 2 % 2) + t / 2 % 2) * g.nx + (2 * (q / 2 / 2 % 2) + t / 2 / 2 % 2) * (g.nx * g.ny))) begins
        ∙ moved g (2 * (X - 1)) (2 * (Y - 1)) (2 * (Z - 1)) (2 * (q % 2) + t % 2) (2 * (q / 2 % 2) + t / 2 % 2) (2 * (q / 2 / 2 % 2) + t / 2 / 2 % 2)

    pub block_child : (q t : ℕ) → first + 2 * child_step g q + child_step g t ≡ child_at g (parent_spot s q) t
    unfolding child_at parent_spot
    block_child q t =
        place_inside g _ _ _ _
        (axis_in ((s.x + 1) / 2) q t g.nx in_x.low in_x.high)
        (axis_in ((s.y + 1) / 2) (q / 2) (t / 2) g.ny in_y.low in_y.high)
        (axis_in ((s.z + 1) / 2) (q / 2 / 2) (t / 2 / 2) g.nz in_z.low in_z.high)
        (block_number q t
        ∙ same (axis_same ((s.x + 1) / 2) q t in_x.low) (axis_same ((s.y + 1) / 2) (q / 2) (t / 2) in_y.low) (axis_same ((s.z + 1) / 2) (q / 2 / 2) (t / 2 / 2) in_z.low))
      where
        same : {i j k i' j' k' : ℕ} → i ≡ i' → j ≡ j' → k ≡ k' → number g i j k ≡ number g i' j' k'
        same e f h = cc

    pub block_inside : (q t : ℕ) → first + 2 * child_step g q + child_step g t < labels
    block_inside q t =
        let n = number_in g _ _ _
        (axis_below ((s.x + 1) / 2) q t g.nx in_x.low in_x.high)
        (axis_below ((s.y + 1) / 2) (q / 2) (t / 2) g.ny in_y.low in_y.high)
        (axis_below ((s.z + 1) / 2) (q / 2 / 2) (t / 2 / 2) g.nz in_z.low in_z.high) in
        omega (arith, n, block_number q t, a.full)

    -- the q-th coarse cell is in its box
    pub block_parent : (q : ℕ) → parent_at (halved g) s q < cells (halved g)
    unfolding parent_at halved half
    block_parent q =
        let x = axis_half ((s.x + 1) / 2) q g.nx in_x.low in_x.high in
        let y = axis_half ((s.y + 1) / 2) (q / 2) g.ny in_y.low in_y.high in
        let z = axis_half ((s.z + 1) / 2) (q / 2 / 2) g.nz in_z.low in_z.high in
        let p = place_inside (halved g) _ _ _ _ x y z refl in
        rw (← p) (number_in (halved g) _ _ _ (below _ _ x.0 x.1) (below _ _ y.0 y.1) (below _ _ z.0 z.1))
      where
        below : (a b : ℕ) → 0 < a → a ≤ b → a - 1 < b
        below a b l h = omega arith

-- the products and sums of the step
module _ (a b t : ℕ) (h : a ≤ 32) (k : b ≤ 32) where
  row : t / 2 % 2 * a ≤ 32
  row = let l : t / 2 % 2 ≤ 1 = omega arith in mul-le-mul l h

  plane : t / 2 / 2 % 2 * (a * b) ≤ 1024
  plane = let l : t / 2 / 2 % 2 ≤ 1 = omega arith in mul-le-mul l (small_two a b h k)

  pub step_far : t % 2 + t / 2 % 2 * a + t / 2 / 2 % 2 * (a * b) ≤ 1057
  step_far = let l : t % 2 ≤ 1 = omega arith in omega (arith, row, plane, l)

  pub plane_fits : Fits w64 (a * b)
  plane_fits = record { fits = omega (arith, small_two a b h k) }

  pub row_fits : Fits w64 (t / 2 % 2 * a)
  row_fits = record { fits = omega (arith, row) }

  pub level_fits : Fits w64 (t / 2 / 2 % 2 * (a * b))
  level_fits = record { fits = omega (arith, plane) }

  pub two_fits : Fits w64 (t % 2 + t / 2 % 2 * a)
  two_fits = record { fits = omega (arith, row) }

  pub step_fits : Fits w64 (t % 2 + t / 2 % 2 * a + t / 2 / 2 % 2 * (a * b))
  step_fits = record { fits = omega (arith, step_far) }

pub ruleset blocks = (rules, outside_is, child_near, near_fits)

pub ruleset steps = (rules, step_far, plane_fits, row_fits, level_fits, two_fits, step_fits)
