-- Entries: a word that holds a cell (15 bits), for each of its faces whether the cell across it is air (6 bits, in the
-- order -x, +x, -y, +y, -z, +z), and d.
use Rattle.std.specs.Prelude.{ℕ, ◌+◌, ◌*◌, ◌%◌, Bool, cond, List, [], ◌∷◌, map}
use Rattle.method.specs.declared.Sides.{Sides}
use Rattle.method.specs.Cast.{is_air, no_wall, around, degree}

abbrev pub one : Bool → ℕ
one b = cond b 1 0

-- the first of the cells has the lowest bit
unfoldable pub air_bits : List ℕ → List ℕ → ℕ
air_bits ls [] = 0
air_bits ls (j ∷ l) = one (is_air ls j) + 2 * air_bits ls l

unfoldable pub entry_of : Sides → List ℕ → ℕ → ℕ
entry_of g ls c = c + 32768 * air_bits ls (around g c) + 2097152 * degree g ls c

-- the cell of an entry, and of each entry of a list
abbrev pub cell_of : ℕ → ℕ
cell_of e = e % 32768

unfoldable pub cells_of : List ℕ → List ℕ
cells_of es = map cell_of es

-- what a face adds to an entry: its bit, of the given weight, and one to d
abbrev pub face_of : List ℕ → ℕ → ℕ → ℕ
face_of ls unit j = unit * one (is_air ls j) + 2097152 * one (no_wall ls j)
