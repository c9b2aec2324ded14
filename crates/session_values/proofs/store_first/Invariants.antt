-- `session_values::store_first` meets its contract: the first c values are stored. Assumes nothing.
use Rattle.std.specs.Prelude.{◌≡◌, ℕ, ℤ, ◌<◌}
use Rattle.session_values.proofs.WordLaws.{Stored}
use Rattle.session_values.proofs.store_first.Given as goal

abbrev pub invariant-loop-c : goal.invariant-loop-c
invariant-loop-c g l = (t : ℕ → ℤ) → ((c : ℕ) (v : ℤ) → c < l.n → goal.F-post g l.value c v → v ≡ t c) → Stored t l.initial.values l.c l.values
