-- How large a binary64 is as a whole number. Beyond 2 ^ 42 it is not looked at: no tick is that far from zero.
use Rattle.std.specs.Prelude.{ℕ, ◌*◌, ◌^◌, min, false, pos, Float}
use Rattle.std.specs.Float.{nan, inf, fin}
use Rattle.std.specs.Float.Ieee.{up, down}
use Rattle.method.specs.Ticks.{nearest}

abbrev pub beyond : Float
beyond = fin false 1 (pos 42)

-- the whole number nearest to the magnitude of x, and 2 ^ 42 where it is more
unfoldable pub size : Float → ℕ
size nan = 0
size (inf s) = 2 ^ 42
size (fin s m e) = min (nearest (m * up e) (down e)) (2 ^ 42)
