-- The promise of `header_length` allows one result; that of `put_session` does so by `put_one` of `text_out`. Assumes
-- nothing.
use mathlib.Core.Path.{◌≡◌, sym, ◌∙◌}
use Prim.Native.Nat.{ℕ}
use Rattle.method.specs.declared.Sides.{Sides}
use Rattle.method.specs.declared.Order.{Order}
use Rattle.method.specs.declared.Settings.{Settings}
use Rattle.session_bytes.specs.Lengths.{HeaderLength}

pub header_length_one : (s : Sides) (o : Order) (t : Settings) (r q : ℕ) → HeaderLength s o t r → HeaderLength s o t q → r ≡ q
header_length_one s o t r q a b = a.is ∙ sym b.is
