-- The test cell by cell: a cell's pressure by its label, what a cell across a face adds, whether a tick is refused.
use Rattle.std.specs.Prelude.{ℕ, zero, suc, ◌+◌, ◌^◌, ◌≤◌, Bool, ◌&&◌, ◌≡◌, List, ℤ, pos, nat_abs, Float}
use Rattle.method.specs.declared.Sides.{Sides}
use Rattle.method.specs.Cast.{is_air}
use Rattle.method.specs.Transfers.{value}
use Rattle.method.specs.Ticks.{tick, is_refused, whole_of, rounded}
use Rattle.ticks.specs.declared.Faces.{Faces}
use Rattle.ticks.specs.Faces.{Visited}

-- the pressures that x rounds to
abbrev pub rounded_on : Sides → List ℕ → List ℤ → List Float → List ℤ
rounded_on g ls vs x = rounded (record { sides = g; labels = ls; values = vs }) x

-- the tick of x in air, the value at an opening, 0 at a wall
unfoldable pub pressure_by : ℕ → ℤ → Float → ℤ
pressure_by zero v x = whole_of (tick x)
pressure_by (suc zero) v x = v
pressure_by (suc (suc l)) v x = pos 0

pub record Pressure (l : ℕ) (v : ℤ) (x : Float) (r : ℤ) : Type 0 where
  pub is : r ≡ pressure_by l v x
  pub small : nat_abs r ≤ 2 ^ 41

-- cell j visited, with at most one pressure more
pub record Added (ls : List ℕ) (ps : List ℤ) (j : ℕ) (a r : Faces) : Type 0 where
  pub visited : Visited ls ps j a r
  pub small : nat_abs r.sum ≤ nat_abs a.sum + 2 ^ 41

-- whether the tick of cell c is refused, where c is air
unfoldable pub refused_at : List ℕ → List Float → ℕ → Bool
refused_at ls x c = is_air ls c && is_refused (tick (value x c))
