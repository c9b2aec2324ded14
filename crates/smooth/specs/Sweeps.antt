-- Sweeps over a list of cells.
use Rattle.std.specs.Prelude.{ℕ, List, length, get_or, Float}
use Rattle.laws.specs.Loops.{up, down}
use Rattle.method.specs.declared.Sides.{Sides}
use Rattle.method.specs.Cast.{is_air}
use Rattle.method.specs.Cycle.{relaxed}

-- Gauss-Seidel at the k-th cell of a list
abbrev pub relaxed_at : Sides → List ℕ → List ℕ → List Float → ℕ → List Float → List Float
relaxed_at g ls cs b k u = relaxed g ls (is_air ls) b (get_or cs k 0) u

-- at each cell of the list, in the list's order and against it
unfoldable pub swept_up : Sides → List ℕ → List ℕ → List Float → List Float → List Float
swept_up g ls cs b u = up (relaxed_at g ls cs b) (length cs) u

unfoldable pub swept_down : Sides → List ℕ → List ℕ → List Float → List Float → List Float
swept_down g ls cs b u = down (relaxed_at g ls cs b) (length cs) u
