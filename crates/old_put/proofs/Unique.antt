-- The promise of `old_header_length` allows one result; that of `put_old_session` is `Put`, which puts' own theorem
-- covers. Assumes nothing.
use mathlib.Core.Path.{◌≡◌, sym, ◌∙◌}
use Prim.Native.Nat.{ℕ}
use Rattle.method.specs.declared.Sides.{Sides}
use Rattle.old_put.specs.OldPuts.{OldHeaderLength}

pub old_length_one : (s : Sides) (u r q : ℕ) → OldHeaderLength s u r → OldHeaderLength s u q → r ≡ q
old_length_one s u r q a b = a.is ∙ sym b.is
