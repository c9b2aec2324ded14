-- The cells of a level and those of the next, by coordinates: children and parents as places, and how a child's label
-- counts.
use Rattle.std.specs.Prelude.{ℕ, ◌+◌, ◌-◌, ◌*◌, ◌/◌, ◌%◌, ◌≤◌, Bool, ◌&&◌, cond, eqb, ltb, List}
use Rattle.method.specs.declared.Sides.{Sides}
use Rattle.method.specs.Cast.{cells, number, label_at}
use Rattle.grid.specs.declared.place.Spot.{Spot}
use Rattle.grid.specs.Place.{place_at}

-- the t-th child, among the cells of g, of the coarse cell at s
unfoldable pub child_at : Sides → Spot → ℕ → ℕ
child_at g s t = place_at g (2 * s.x + t % 2 + 1) (2 * s.y + t / 2 % 2 + 1) (2 * s.z + t / 2 / 2 % 2 + 1)

-- the t-th coarse cell, among the cells of h, that gives to the cell at s
unfoldable pub parent_at : Sides → Spot → ℕ → ℕ
parent_at h s t = place_at h ((s.x + 1) / 2 + t % 2) ((s.y + 1) / 2 + t / 2 % 2) ((s.z + 1) / 2 + t / 2 / 2 % 2)

-- none of the t-th coarse place's coordinates is before the box, and what they are then
pub record Begun (s : Spot) (t : ℕ) : Type 0 where
  pub x_begun : 1 ≤ (s.x + 1) / 2 + t % 2
  pub y_begun : 1 ≤ (s.y + 1) / 2 + t / 2 % 2
  pub z_begun : 1 ≤ (s.z + 1) / 2 + t / 2 / 2 % 2

unfoldable pub parent_spot : Spot → ℕ → Spot
parent_spot s t = record {
  x = (s.x + 1) / 2 + t % 2 - 1;
  y = (s.y + 1) / 2 + t / 2 % 2 - 1;
  z = (s.z + 1) / 2 + t / 2 / 2 % 2 - 1;
}

-- whether the children of the coarse cell at s are all in the box; the first of them, or the number of cells where not
unfoldable pub whole_in : Sides → Spot → Bool
whole_in g s = ltb (2 * s.x + 1) g.nx && (ltb (2 * s.y + 1) g.ny && ltb (2 * s.z + 1) g.nz)

unfoldable pub first_child : Sides → Spot → ℕ
first_child g s = cond (whole_in g s) (number g (2 * s.x) (2 * s.y) (2 * s.z)) (cells g)

-- how far the t-th child is from the first
unfoldable pub child_step : Sides → ℕ → ℕ
child_step g t = t % 2 + t / 2 % 2 * g.nx + t / 2 / 2 % 2 * (g.nx * g.ny)

-- a label so far, and a child's label more: an opening outranks air, and air a wall
unfoldable pub outrank : ℕ → ℕ → ℕ
outrank a l = cond (eqb a 1) 1 (cond (eqb l 1) 1 (cond (eqb l 0) 0 a))

-- coordinates that are no greater than a side
pub record Near (s : Spot) : Type 0 where
  pub x_near : s.x ≤ 32
  pub y_near : s.y ≤ 32
  pub z_near : s.z ≤ 32

-- the same with the t-th child of the coarse cell at s
abbrev pub rank_step : List ℕ → Sides → Spot → ℕ → ℕ → ℕ
rank_step ls g s t a = outrank a (label_at ls (child_at g s t))
