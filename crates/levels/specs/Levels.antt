-- Where the levels of a box stand, and their sides.
use Rattle.std.specs.Prelude.{ℕ, ◌+◌, cond, ltb, List, get_or}
use Rattle.laws.specs.Lists.{tab}
use Rattle.method.specs.declared.Sides.{Sides}
use Rattle.method.specs.Cast.{cells}
use Rattle.method.specs.Levels.{halved}
use Rattle.theory.specs.Levels.{sides_at, cells_before}
use Rattle.levels.specs.declared.sides.Level.{Level}

-- six levels, whatever the number of levels used
abbrev pub Levels : Type 0
Levels = List Level

-- level k of a box: it starts where the one before it ends
unfoldable pub level_at : Sides → ℕ → Level
level_at g k = record { start = cells_before g k; sides = sides_at g k }

-- the six levels of a box
unfoldable pub levels_of : Sides → Levels
levels_of g = tab 6 (level_at g)

-- of six levels, what is read of level k; 0 and no sides beyond the sixth
abbrev pub no_level : Level
no_level = record { start = 0; sides = record { nx = 0; ny = 0; nz = 0 } }

abbrev pub start_in : Levels → ℕ → ℕ
start_in l k = (get_or l k no_level).start

abbrev pub sides_in : Levels → ℕ → Sides
sides_in l k = (get_or l k no_level).sides

-- the sides of level 0
unfoldable pub base : Levels → Sides
base l = sides_in l 0

-- the level after this one
unfoldable pub next_level : Level → Level
next_level l = record { start = l.start + cells l.sides; sides = halved l.sides }

-- ---- of six levels, what f gives for the first k, and z for the others
unfoldable pub firsts : {A : Type 0} → A → (ℕ → A) → ℕ → List A
firsts z f k = tab 6 (λ j. cond (ltb j k) (f j) z)
