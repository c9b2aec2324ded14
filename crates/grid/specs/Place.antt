-- Places in code: coordinates, and the cell at coordinates counted from one.
use Rattle.std.specs.Prelude.{ℕ, ◌-◌, ◌<◌, Bool, ◌&&◌, cond, ltb, leb, ◌≡◌}
use Rattle.method.specs.declared.Sides.{Sides}
use Rattle.method.specs.Cast.{along, cells, number}
use Rattle.theory.specs.Sides.{x_axis, y_axis, z_axis}
use Rattle.grid.specs.declared.place.Spot.{Spot}

-- a cell's coordinates along the three axes, and that they are below the sides
pub record SpotOf (g : Sides) (c : ℕ) (r : Spot) : Type 0 where
  pub is_x : r.x ≡ along (x_axis g) c
  pub is_y : r.y ≡ along (y_axis g) c
  pub is_z : r.z ≡ along (z_axis g) c
  pub in_x : r.x < g.nx
  pub in_y : r.y < g.ny
  pub in_z : r.z < g.nz

-- the cell at the coordinates a - 1, b - 1, e - 1, or the number of cells outside
abbrev pub in_box : Sides → ℕ → ℕ → ℕ → Bool
in_box g a b e = ltb 0 a && (leb a g.nx && (ltb 0 b && (leb b g.ny && (ltb 0 e && leb e g.nz))))

unfoldable pub place_at : Sides → ℕ → ℕ → ℕ → ℕ
place_at g a b e = cond (in_box g a b e) (number g (a - 1) (b - 1) (e - 1)) (cells g)
