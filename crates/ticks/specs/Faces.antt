-- What the cells across the faces add: how many are no walls, and the sum of their pressures.
use Rattle.std.specs.Prelude.{◌≡◌, ℕ, ◌+◌, ◌*◌, ◌^◌, ◌≤◌, cond, List, ℤ, unsigned_abs}
use Rattle.laws.specs.Whole.{◌+ᶻ◌}
use Rattle.method.specs.declared.Sides.{Sides}
use Rattle.method.specs.Cast.{no_wall, field, degree, sum_around, residual}
use Rattle.ticks.specs.declared.Faces.{Faces}

-- cell j's part in the count and in the sum
unfoldable pub count_step : List ℕ → ℕ → ℕ → ℕ
count_step ls j d = cond (no_wall ls j) (d + 1) d

unfoldable pub sum_step : List ℕ → List ℤ → ℕ → ℤ → ℤ
sum_step ls ps j r = cond (no_wall ls j) (r +ᶻ field ps j) r

pub record Visited (ls : List ℕ) (ps : List ℤ) (j : ℕ) (a r : Faces) : Type 0 where
  pub count : r.d ≡ count_step ls j a.d
  pub total : r.sum ≡ sum_step ls ps j a.sum

-- all cells across c's faces
pub record Gathered (g : Sides) (ls : List ℕ) (ps : List ℤ) (c : ℕ) (r : Faces) : Type 0 where
  pub count : r.d ≡ degree g ls c
  pub total : r.sum ≡ sum_around g ls (field ps) c
  pub few : r.d ≤ 6
  pub small : unsigned_abs r.sum ≤ 6 * 2 ^ 41

-- the residual at cell c, and its size
pub record Residual (g : Sides) (ls : List ℕ) (vs ps : List ℤ) (c : ℕ) (r : ℤ) : Type 0 where
  pub is : r ≡ residual g ls (field vs) (field ps) c
  pub small : unsigned_abs r ≤ 2 ^ 45
