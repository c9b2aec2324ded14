-- A body of n cells: n label bytes, then n values of four bytes.
use Rattle.std.specs.Prelude.{Bool, List, ℕ, ◌+◌, ◌*◌, ltb, take, drop, ℤ, nat_abs}
use Rattle.method.specs.declared.Order.{Order}
use Rattle.method.specs.Cast.{label_at, widest}
use Rattle.method.specs.Form.{value_read}

-- the value of cell c of a body of n cells
unfoldable pub value_in : List ℕ → ℕ → Order → ℕ → ℤ
value_in body n o c = value_read o (take 4 (drop (n + 4 * c) body))

unfoldable pub bad_value_in : List ℕ → ℕ → Order → ℕ → Bool
bad_value_in body n o c = ltb (widest (label_at body c)) (nat_abs (value_in body n o c))
