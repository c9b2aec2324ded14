-- A body of an old session: two bytes a value, then the labels.
use Rattle.std.specs.Prelude.{Bool, List, ℕ, ◌*◌, ltb, take, drop, ℤ, nat_abs}
use Rattle.method.specs.Cast.{label_at, widest}
use Rattle.method.specs.OldForm.{old_value_read}

-- the value of cell c
unfoldable pub old_value_in : List ℕ → ℕ → ℕ → ℤ
old_value_in body u c = old_value_read u (take 2 (drop (2 * c) body))

unfoldable pub bad_old_value : List ℕ → List ℕ → ℕ → ℕ → Bool
bad_old_value body ls u c = ltb (widest (label_at ls c)) (nat_abs (old_value_in body u c))
