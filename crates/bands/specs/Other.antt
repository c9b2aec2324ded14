-- The band, as the code finds it: child by child of parent by parent.
use Rattle.std.specs.Prelude.{ℕ, ◌+◌, ◌-◌, ◌*◌, ◌/◌, ◌<◌, ◌≤◌, ◌≡◌, Bool, not, ◌&&◌, cond, List, ltb}
use Rattle.method.specs.declared.Sides.{Sides}
use Rattle.method.specs.Cast.{cells, number, is_air}
use Rattle.method.specs.Levels.{halved}
use Rattle.method.specs.Cycle.{has_other}
use Rattle.theory.specs.Sides.{Fit}
use Rattle.grid.specs.declared.place.Spot.{Spot}
use Rattle.levels.specs.Kin.{Near, child_at, parent_at}

-- the t-th child of the coarse cell at s isn't air
unfoldable pub child_other : List ℕ → Sides → Spot → ℕ → Bool
child_other ls g s t = not (is_air ls (child_at g s t))

-- the q-th parent of the cell at s has a child that isn't air
unfoldable pub parent_other : List ℕ → Sides → Sides → Spot → ℕ → Bool
parent_other ls g h s q = has_other g ls (parent_at h s q)

-- cell c of a level of sides g and n cells whose next level has the sides h and m cells
pub record BandAsked (g h : Sides) (n m c : ℕ) : Type 0 where
  pub fine : Fit g
  pub next : h ≡ halved g
  pub count : n ≡ cells g
  pub coarse_count : m ≡ cells h
  pub inside : c < cells g

-- ---- the block of cells, four a side, that are the children of the coarse cells that give to the cell at s
-- along an axis it begins at 2·(a - 1); whether all four are on the axis
unfoldable pub four_in : ℕ → ℕ → Bool
four_in a side = ltb 0 a && ltb (2 * a + 1) side

unfoldable pub block_in : Sides → Spot → Bool
block_in g s = four_in ((s.x + 1) / 2) g.nx && (four_in ((s.y + 1) / 2) g.ny && four_in ((s.z + 1) / 2) g.nz)

-- its first cell, or the number of cells where it isn't in the box
unfoldable pub corner_of : Sides → Spot → ℕ
corner_of g s = cond (block_in g s) (number g (2 * ((s.x + 1) / 2 - 1)) (2 * ((s.y + 1) / 2 - 1)) (2 * ((s.z + 1) / 2 - 1))) (cells g)

-- the block is in the box, which has a label for each cell, and begins at first
pub record BlockAsked (g : Sides) (s : Spot) (first labels : ℕ) : Type 0 where
  pub fine : Fit g
  pub is : first ≡ corner_of g s
  pub inside : first < cells g
  pub full : cells g ≤ labels

-- the cell at s of a level of sides g and n cells whose next level has the sides h and m cells
pub record AroundAsked (g h : Sides) (n m : ℕ) (s : Spot) : Type 0 where
  pub fine : Fit g
  pub next : h ≡ halved g
  pub count : n ≡ cells g
  pub coarse_count : m ≡ cells h
  pub near : Near s
