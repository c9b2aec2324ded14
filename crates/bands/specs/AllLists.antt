-- The lists of all levels in one room: for each level all its air, the band first; for the last one in the order in
-- which it is swept.
use Rattle.std.specs.Prelude.{ℕ, zero, suc, ◌+◌, ◌<◌, ◌≤◌, ◌≡◌, List, [], ◌++◌, ltb, length, get_or, take, drop}
use Rattle.method.specs.declared.Sides.{Sides}
use Rattle.method.specs.Cast.{cells, interior}
use Rattle.method.specs.Rooms.{byte_need}
use Rattle.theory.specs.Levels.{sides_at, labels_at, air_before}
use Rattle.theory.specs.Sides.{Fit}
use Rattle.bands.specs.declared.lists.LevelList.{LevelList}
use Rattle.levels.specs.Rooms.{written}
use Rattle.levels.specs.Levels.{Levels, levels_of, base, start_in, sides_in, firsts}
use Rattle.levels.specs.AllLabels.{LabelsIn}
use Rattle.bands.specs.Lists.{list_of, air_of}

-- of level k of count levels: what is swept, and all its air; and the air of the levels 0, 1, .. k - 1, one after the
-- other
unfoldable pub list_at : Sides → List ℕ → ℕ → ℕ → List ℕ
list_at g ls count k = list_of (ltb (k + 1) count) (sides_at g k) (labels_at g ls k)

unfoldable pub air_at : Sides → List ℕ → ℕ → ℕ → List ℕ
air_at g ls count k = air_of (ltb (k + 1) count) (sides_at g k) (labels_at g ls k)

unfoldable pub lists_before : Sides → List ℕ → ℕ → ℕ → List ℕ
lists_before g ls count zero = []
lists_before g ls count (suc k) = lists_before g ls count k ++ air_at g ls count k

-- six lists, one for each level
abbrev pub Lists : Type 0
Lists = List LevelList

-- the list of level j: where it starts, how much of it is swept, and how long it is
unfoldable pub list_row : Sides → List ℕ → ℕ → ℕ → LevelList
list_row g ls count j = record {
  start = length (lists_before g ls count j);
  swept = length (list_at g ls count j);
  air = length (air_at g ls count j);
}

-- no list
abbrev pub no_list : LevelList
no_list = record { start = 0; swept = 0; air = 0 }

-- of six lists, what is read of level k's; 0 beyond the sixth
abbrev pub row_in : Lists → ℕ → LevelList
row_in s k = get_or s k no_list

-- the lists of the first k levels, and no list for the others
unfoldable pub lists_to : Sides → List ℕ → ℕ → ℕ → Lists
lists_to g ls count k = firsts no_list (list_row g ls count) k

-- what count levels' lists leave in the room e, and what comes back of them
pub record AllListed (g : Sides) (ls : List ℕ) (count : ℕ) (e : List ℕ) (r : Lists) (s : List ℕ) : Type 0 where
  pub lists : r ≡ lists_to g ls count count
  pub room : s ≡ written e 0 (lists_before g ls count count)

-- ---- as the code has them: the labels of level k in the room of bytes, those of level 0, and a level's lists
unfoldable pub part_in : Levels → ℕ → List ℕ → List ℕ
part_in l k bytes = take (cells (sides_in l k)) (drop (start_in l k) bytes)

unfoldable pub base_labels : Levels → List ℕ → List ℕ
base_labels l bytes = take (cells (base l)) bytes

unfoldable pub list_in : Levels → ℕ → List ℕ → ℕ → List ℕ
list_in l count bytes k = list_of (ltb (k + 1) count) (sides_in l k) (part_in l k bytes)

unfoldable pub air_in : Levels → ℕ → List ℕ → ℕ → List ℕ
air_in l count bytes k = air_of (ltb (k + 1) count) (sides_in l k) (part_in l k bytes)

-- ---- what is asked
-- level k's lists from place a on, in a room of the given length
pub record LevelAsked (l : Levels) (k a : ℕ) (bytes : List ℕ) (words : ℕ) : Type 0 where
  pub below : k < 6
  pub fit : Fit (sides_in l k)
  pub inside : start_in l k + cells (sides_in l k) ≤ length bytes
  pub room : a + interior (sides_in l k) (part_in l k bytes) ≤ words

-- count levels whose labels stand in the room of bytes, and room for all their air cells
pub record ListsAsked (l : Levels) (count : ℕ) (bytes : List ℕ) (words : ℕ) : Type 0 where
  pub fit : Fit (base l)
  pub laid : l ≡ levels_of (base l)
  pub most : count ≤ 6
  pub full : byte_need (cells (base l)) ≤ length bytes
  pub labels : LabelsIn (base l) (base_labels l bytes) count bytes
  pub room : air_before (base l) (base_labels l bytes) count ≤ words
