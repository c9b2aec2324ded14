-- The line of a pressure, how long a print may be, and bytes that are put and are few.
use Rattle.std.specs.Prelude.{◌≡◌, ℕ, ◌+◌, ◌*◌, ◌≤◌, List, ◌++◌, ℤ}
use Rattle.laws.specs.Text.{text}
use Rattle.method.specs.declared.Answer.{Answer}
use Rattle.method.specs.Numbers.{decimal}
use Rattle.method.specs.Form.{line}
use Rattle.method.specs.Program.{whole}
use Rattle.text_out.specs.declared.Sink.{Sink}
use Rattle.text_out.specs.Puts.{Put}

abbrev pub cell_line : ℤ → List ℕ
cell_line p = line (text "cell=") (whole p)

-- wish 5's lines, after worst
unfoldable pub worst_lines : Answer → List ℕ
worst_lines a =
    line (text "worst=") (decimal a.worst) ++ (line (text "worstcell=") (decimal a.worstcell) ++ line (text "worstvalue=") (whole a.worstvalue))

unfoldable pub cast_lines : Answer → List ℕ
cast_lines a = line (text "interior=") (decimal a.interior) ++ line (text "depth=") (decimal a.depth)

-- enough for any print of so many pressures: the eight lines have at most 160 bytes, the line of a pressure at most 26
abbrev pub answer_room : ℕ
answer_room = 160

abbrev pub print_room : ℕ → ℕ
print_room n = answer_room + 26 * n

pub record PutShort (most : ℕ) (bytes old : List ℕ) (at : ℕ) (new : List ℕ) (r : ℕ) : Type 0 where
  pub puts : Put bytes old at new r
  pub short : r ≤ at + most

-- the same of a sink, which holds the same lent output afterwards
abbrev pub PutsShort : ℕ → List ℕ → Sink → Sink → Type 0
PutsShort most bytes s t = (t.bytes.ghost_name ≡ s.bytes.ghost_name) × PutShort most bytes s.bytes.now s.at t.bytes.now t.at
