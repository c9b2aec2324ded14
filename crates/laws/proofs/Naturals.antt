-- What omega does not say by itself. Assumes nothing.
use mathlib.Core.Logic.{◌⊎◌, inl, inr}
use Prim.Native.Nat.{ℕ, ◌<◌, ◌≤◌}
use lib.Dec.{ltb, ltb→lt, nltb→le}
use Rattle.laws.proofs.Bools.{split}

pub le_or_lt : (a b : ℕ) → (a ≤ b) ⊎ (b < a)
le_or_lt a b = split (ltb b a) (λ t. inr (ltb→lt b a t)) (λ t. inl (nltb→le b a t))
