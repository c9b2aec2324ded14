-- The greatest residual, cell by cell.
use Rattle.std.specs.Prelude.{ℕ, max, cond, List, ℤ, unsigned_abs}
use Rattle.method.specs.declared.Sides.{Sides}
use Rattle.method.specs.Cast.{judged, field, residual}

unfoldable pub worst_step : Sides → List ℕ → List ℤ → List ℤ → ℕ → ℕ → ℕ
worst_step g ls vs ps c w = cond (judged ls c) (max w (unsigned_abs (residual g ls (field vs) (field ps) c))) w
