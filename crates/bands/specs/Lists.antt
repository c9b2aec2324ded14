-- The cells that are smoothed on a level, and how they are written down.
use Rattle.std.specs.Prelude.{ℕ, ◌+◌, ◌≤◌, ◌≡◌, Bool, true, false, not, ◌&&◌, List, ◌++◌, map, length}
use Rattle.laws.specs.Lists.{kept, chosen}
use Rattle.method.specs.declared.Sides.{Sides}
use Rattle.method.specs.Cast.{cells, is_air}
use Rattle.method.specs.Cycle.{in_band}
use Rattle.theory.specs.Waves.{waves}
use Rattle.grid.specs.Entries.{entry_of}
use Rattle.bands.specs.declared.lists.Filling.{Filling}
use Rattle.bands.specs.declared.lists.LevelList.{LevelList}
use Rattle.levels.specs.Rooms.{written}

-- the test of a level's cells: in the band, or air; and the entries of the cells that pass, wave by wave
unfoldable pub smoothed : Bool → Sides → List ℕ → ℕ → Bool
smoothed true g ls = in_band g ls
smoothed false g ls = is_air ls

unfoldable pub list_of : Bool → Sides → List ℕ → List ℕ
list_of band g ls = map (entry_of g ls) (waves g (smoothed band g ls))

-- the air that is left: off the band, or none; and its entries, by ascending number
unfoldable pub left : Bool → Sides → List ℕ → ℕ → Bool
left band g ls c = is_air ls c && not (smoothed band g ls c)

abbrev pub left_at : Bool → Sides → List ℕ → ℕ → List ℕ
left_at band g ls c = kept (left band g ls c) c

unfoldable pub left_of : Bool → Sides → List ℕ → List ℕ
left_of band g ls = map (entry_of g ls) (chosen (left band g ls) (cells g))

-- all air of a level: what is smoothed, and then what is left
abbrev pub air_of : Bool → Sides → List ℕ → List ℕ
air_of band g ls = list_of band g ls ++ left_of band g ls

-- what f makes of the cells l is written to the room from place a on, and r is the place after it
pub record Placed (f : ℕ → ℕ) (e : List ℕ) (a : ℕ) (l : List ℕ) (r : ℕ) (s : List ℕ) : Type 0 where
  pub next : r ≡ a + length l
  pub room : s ≡ written e a (map f l)

-- l is written to the room from place a on, and r is how long it is
pub record Listed (e : List ℕ) (a : ℕ) (l : List ℕ) (r : ℕ) (s : List ℕ) : Type 0 where
  pub count : r ≡ length l
  pub room : s ≡ written e a l

-- all is written to the room from place a on, and r says so, how much of it is swept, and how long it is
pub record LevelListed (e : List ℕ) (a : ℕ) (swept all : List ℕ) (r : LevelList) (s : List ℕ) : Type 0 where
  pub start : r.start ≡ a
  pub count : r.swept ≡ length swept
  pub whole : r.air ≡ length all
  pub room : s ≡ written e a all

-- a filling has room for so many words more
abbrev pub Room : ℕ → Filling → Type 0
Room n s = s.next + n ≤ length s.words.now

-- what f makes of the cells l is filled in: it stands from the next place on, and the next place is the one after it, in
-- the same lent room
abbrev pub Fills : (ℕ → ℕ) → List ℕ → Filling → Filling → Type 0
Fills f l s t = (t.words.ghost_name ≡ s.words.ghost_name) × Placed f s.words.now s.next l t.next t.words.now

-- the same of all of a level's list, and r says where it starts, how much of it is swept, and how long it is
abbrev pub LevelFills : List ℕ → List ℕ → Filling → LevelList → Filling → Type 0
LevelFills swept all s r t =
    (t.words.ghost_name ≡ s.words.ghost_name) × (t.next ≡ s.next + r.air) × LevelListed s.words.now s.next swept all r t.words.now
