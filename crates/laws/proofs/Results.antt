-- A result that is an error with a known value. Assumes nothing.
use Rattle.std.specs.Prelude.{◌≡◌, Result, Ok, Err, IsErrAnd}
use Rattle.std.proofs.Common.{ap}

-- what `?` hands on
pub left_by : {T E : Type 0} (s : Result T E) (e : E) → IsErrAnd s (λ y. y ≡ e) → s ≡ Err e
left_by (Err y) e h = ap Err h
left_by (Ok x) e h = absurd h
