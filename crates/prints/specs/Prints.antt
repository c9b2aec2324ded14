-- Sides in range but more cells than there is room for, and how much of an input the program needs.
use Rattle.std.specs.Prelude.{ℕ, ◌+◌, ◌*◌, Bool, ◌&&◌, List, ltb, length}
use Rattle.method.specs.declared.Order.TheVariants.{Little}
use Rattle.method.specs.Cast.{cells, sides_fit}
use Rattle.method.specs.Form.{header, header_written}
use Rattle.method.specs.OldForm.{old_header_written}
use Rattle.method.specs.Program.{program_room}

unfoldable pub crowded : ℕ → List ℕ → Bool
crowded room bs = sides_fit (header bs).sides && ltb room (cells (header bs).sides)

-- a header that is of the form and as long as one can be: seven digits to each number, and the longer word of the two
-- orders
unfoldable pub longest_header : List ℕ
longest_header = header_written (record { nx = 9999999; ny = 9999999; nz = 9999999 }) Little (record { tolerance = 9999999; levels = 9999999; rounds = 9999999 })

-- THE BUFFER of a program with room for so many cells: such a header, 5 bytes for each of them, and one byte by which a
-- body is too long
unfoldable pub buffer_for : ℕ → ℕ
buffer_for room = length longest_header + 5 * room + 1

-- the program's own
unfoldable pub input_room : ℕ
input_room = buffer_for program_room

-- the room of the program for the greatest casts: "Sides nx, ny, nz are 1 to 32."
unfoldable pub large_room : ℕ
large_room = cells (record { nx = 32; ny = 32; nz = 32 })

-- the same of the old form: its longest header, 3 bytes for each cell of the greatest cast, and one byte by which a
-- body is too long
unfoldable pub longest_old_header : List ℕ
longest_old_header = old_header_written (record { nx = 9999999; ny = 9999999; nz = 9999999 }) 9999999

unfoldable pub old_buffer : ℕ
old_buffer = length longest_old_header + 3 * large_room + 1
