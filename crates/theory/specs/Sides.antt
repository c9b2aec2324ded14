-- Sides that fit, and the three axes by name.
use Rattle.std.specs.Prelude.{◌*◌, ◌≤◌}
use Rattle.method.specs.declared.Sides.{Sides}
use Rattle.method.specs.Cast.{Axis}

-- each side is 1 to 32
pub record Fit (s : Sides) : Type 0 where
  pub nx_one : 1 ≤ s.nx
  pub nx_32 : s.nx ≤ 32
  pub ny_one : 1 ≤ s.ny
  pub ny_32 : s.ny ≤ 32
  pub nz_one : 1 ≤ s.nz
  pub nz_32 : s.nz ≤ 32

-- the axes, by name
abbrev pub x_axis : Sides → Axis
x_axis s = record { stride = 1; side = s.nx }

abbrev pub y_axis : Sides → Axis
y_axis s = record { stride = s.nx; side = s.ny }

abbrev pub z_axis : Sides → Axis
z_axis s = record { stride = s.nx * s.ny; side = s.nz }
