-- The levels of a box: level 0 is the cast itself, and each level is halved to the next. How many cells and air cells
-- the first l levels have together.
use Rattle.std.specs.Prelude.{ℕ, zero, suc, ◌+◌, List}
use Rattle.method.specs.declared.Sides.{Sides}
use Rattle.method.specs.Cast.{cells, interior}
use Rattle.method.specs.Levels.{halved, coarse}

-- the sides of level l of a box of sides s
unfoldable pub sides_at : Sides → ℕ → Sides
sides_at s zero = s
sides_at s (suc l) = halved (sides_at s l)

-- the labels of level l of a cast of sides s and labels ls
unfoldable pub labels_at : Sides → List ℕ → ℕ → List ℕ
labels_at s ls zero = ls
labels_at s ls (suc l) = coarse (sides_at s l) (labels_at s ls l)

-- how many cells the levels 0, 1, .. l - 1 have together
unfoldable pub cells_before : Sides → ℕ → ℕ
cells_before s zero = 0
cells_before s (suc l) = cells_before s l + cells (sides_at s l)

-- how many air cells the levels 0, 1, .. l - 1 have together
unfoldable pub air_before : Sides → List ℕ → ℕ → ℕ
air_before s ls zero = 0
air_before s ls (suc l) = air_before s ls l + interior (sides_at s l) (labels_at s ls l)
