-- All levels in the lent rooms: what a cycle asks of them, and what it promises.
use Rattle.std.specs.Prelude.{ℕ, ◌+◌, ◌-◌, ◌*◌, ◌≤◌, ◌<◌, ◌≡◌, List, length, take, drop, Float}
use Rattle.method.specs.declared.Sides.{Sides}
use Rattle.method.specs.Cast.{cells}
use Rattle.method.specs.Transfers.{restricted}
use Rattle.method.specs.Cycle.{cycle, residue, corrected}
use Rattle.theory.specs.Levels.{sides_at, labels_at, cells_before}
use Rattle.theory.specs.Sides.{Fit}
use Rattle.levels.specs.Levels.{levels_of, base, start_in, sides_in, Levels}
use Rattle.levels.specs.AllLabels.{LabelsIn}
use Rattle.bands.specs.AllLists.{base_labels, list_at, air_at, Lists, row_in}
use Rattle.smooth.specs.Fields.{u_of, b_of}
use Rattle.cycle.specs.Strokes.{Put}

-- in the room of words what is swept of level k, and all its air
unfoldable pub list_from : Lists → ℕ → List ℕ → List ℕ
list_from s k words = take ((row_in s k).swept) (drop ((row_in s k).start) words)

unfoldable pub air_from : Lists → ℕ → List ℕ → List ℕ
air_from s k words = take ((row_in s k).air) (drop ((row_in s k).start) words)

-- count levels, whose labels stand in the room of bytes and whose lists stand in the room of words
pub record Prepared (l : Levels) (s : Lists) (count : ℕ) (bytes words : List ℕ) : Type 0 where
  pub fit : Fit (base l)
  pub laid : l ≡ levels_of (base l)
  pub least : 1 ≤ count
  pub most : count ≤ 6
  pub inside : cells_before (base l) count ≤ length bytes
  pub labels : LabelsIn (base l) (base_labels l bytes) count bytes
  pub ends : (k : ℕ) → k < count → (row_in s k).start + (row_in s k).air ≤ length words
  pub within : (k : ℕ) → k < count → (row_in s k).swept ≤ (row_in s k).air
  pub lists : (k : ℕ) → k < count → list_from s k words ≡ list_at (base l) (base_labels l bytes) count k
  pub air : (k : ℕ) → k < count → air_from s k words ≡ air_at (base l) (base_labels l bytes) count k

-- the three fields of the levels k, k + 1, .. count - 1 of a box
unfoldable pub fields_from : Sides → ℕ → ℕ → ℕ
fields_from g count k = 3 * (cells_before g count - cells_before g k)

-- the same with a room of r elements for the fields from level k on
pub record Ready (l : Levels) (s : Lists) (count k : ℕ) (bytes words : List ℕ) (r : ℕ) : Type 0 where
  pub prepared : Prepared l s count bytes words
  pub below : k < count
  pub roomy : fields_from (base l) count k ≤ r

-- the sides, the number of cells and the labels of level k
abbrev pub sides_of : Levels → ℕ → Sides
sides_of l k = sides_at (base l) k

abbrev pub cells_of : Levels → ℕ → ℕ
cells_of l k = cells (sides_at (base l) k)

abbrev pub labels_of : Levels → List ℕ → ℕ → List ℕ
labels_of l bytes k = labels_at (base l) (base_labels l bytes) k

-- the cycle of level k with those below it, from b
abbrev pub cycle_from : Levels → List ℕ → ℕ → ℕ → List Float → List Float
cycle_from l bytes count k b = cycle k (count - 1 - k) (sides_of l k) (labels_of l bytes k) b

-- THE PROMISE: u is the cycle's, from b; b, all beyond the fields of the levels from k on and the length stay
abbrev pub Cycled : Levels → List ℕ → ℕ → ℕ → List Float → List Float → Type 0
Cycled l bytes count k e x = Put (cells_of l k) (fields_from (base l) count k) (cycle_from l bytes count k (b_of (cells_of l k) e)) e x

-- u corrected by the next level's cycle, from the restricted residual
abbrev pub correction : Levels → List ℕ → ℕ → ℕ → List Float → List Float → List Float
correction l bytes count k b u =
    let g = sides_of l k in
    let ls = labels_of l bytes k in
    corrected g ls u (cycle_from l bytes count (k + 1) (restricted g ls (residue g ls b u)))

abbrev pub Corrected : Levels → List ℕ → ℕ → ℕ → List Float → List Float → Type 0
Corrected l bytes count k e x =
    Put (cells_of l k) (fields_from (base l) count k) (correction l bytes count k (b_of (cells_of l k) e) (u_of (cells_of l k) e)) e x

-- ---- what is asked of the rooms of bytes and words, of these lengths, to read level k's part
pub record LabelsAt (l : Levels) (k n : ℕ) : Type 0 where
  pub below : k < 6
  pub fit : Fit (sides_in l k)
  pub inside : start_in l k + cells (sides_in l k) ≤ n

pub record ListAt (s : Lists) (k n : ℕ) : Type 0 where
  pub below : k < 6
  pub inside : (row_in s k).start + (row_in s k).swept ≤ n

pub record AirAt (s : Lists) (k n : ℕ) : Type 0 where
  pub below : k < 6
  pub inside : (row_in s k).start + (row_in s k).air ≤ n
