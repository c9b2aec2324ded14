-- The labels of all levels in one room, and how each level's are made of those before.
use Rattle.std.specs.Prelude.{ℕ, zero, suc, ◌+◌, ◌<◌, ◌≤◌, ◌≡◌, List, [], ◌++◌, take, drop, set}
use Rattle.method.specs.declared.Sides.{Sides}
use Rattle.method.specs.Cast.{cells}
use Rattle.method.specs.Levels.{halved, coarse_label, coarse}
use Rattle.method.specs.Rooms.{byte_need}
use Rattle.theory.specs.Levels.{sides_at, labels_at, cells_before}
use Rattle.theory.specs.Sides.{Fit}
use Rattle.levels.specs.Rooms.{written}
use Rattle.levels.specs.Levels.{Levels, levels_of, base, start_in, sides_in}

-- the labels of the levels 0, 1, .. k - 1, one after the other
unfoldable pub all_labels : Sides → List ℕ → ℕ → List ℕ
all_labels g ls zero = []
all_labels g ls (suc k) = all_labels g ls k ++ labels_at g ls k

-- a room in which each of the first count levels has its labels
pub record LabelsIn (g : Sides) (ls : List ℕ) (count : ℕ) (bytes : List ℕ) : Type 0 where
  pub at : (k : ℕ) → k < count → take (cells (sides_at g k)) (drop (cells_before g k) bytes) ≡ labels_at g ls k

-- ---- coarse cell c of the level of sides g and n cells that starts at a, and all of them; then the level after level
-- k
unfoldable pub coarsen_step : Sides → ℕ → ℕ → ℕ → List ℕ → List ℕ
coarsen_step g a n c e = set e (a + n + c) (coarse_label g (take n (drop a e)) c)

abbrev pub coarsened : Sides → ℕ → List ℕ → List ℕ
coarsened g a e = written e (a + cells g) (coarse g (take (cells g) (drop a e)))

unfoldable pub next_step : Levels → ℕ → List ℕ → List ℕ
next_step l k e = coarsened (sides_in l k) (start_in l k) e

-- ---- what is asked
-- coarse cell c, of a level of sides g and n cells whose next level has the sides h
pub record CoarseAsked (g h : Sides) (n c : ℕ) : Type 0 where
  pub fine : Fit g
  pub next : h ≡ halved g
  pub count : n ≡ cells g
  pub inside : c < cells h

-- count levels, in a room of the given length, of a cast with that many labels
pub record LabelsAsked (l : Levels) (count labels bytes : ℕ) : Type 0 where
  pub fit : Fit (base l)
  pub laid : l ≡ levels_of (base l)
  pub least : 1 ≤ count
  pub most : count ≤ 6
  pub full : labels ≡ cells (base l)
  pub room : byte_need (cells (base l)) ≤ bytes
