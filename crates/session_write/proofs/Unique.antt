-- The writer's promise allows one result and one final content of what was lent. Assumes nothing.
use mathlib.Core.Path.{◌≡◌, sym, ap₂, ◌∙◌}
use mathlib.Core.List.{List}
use lib.IntN.{ℤ}
use Prim.Native.Nat.{ℕ}
use Rattle.method.specs.declared.Sides.{Sides}
use Rattle.method.specs.declared.Order.{Order}
use Rattle.method.specs.declared.Settings.{Settings}
use Rattle.session_write.specs.Writes.{WriteOf}
use Rattle.session_write.specs.declared.Written.{Written}

pub written_eq : (r q : Written) → r.answer ≡ q.answer → r.count ≡ q.count → r ≡ q
written_eq r q a c = ap₂ (λ x y. record { answer = x; count = y }) a c

pub write_one : (s : Sides) (o : Order) (t : Settings) (ls : List ℕ) (vs : List ℤ) (old : List ℕ) (r q : Written) (x y : List ℕ)
    → WriteOf s o t ls vs old r x → WriteOf s o t ls vs old q y → (r ≡ q) × (x ≡ y)
write_one s o t ls vs old r q x y a b = (written_eq r q (a.answer ∙ sym b.answer) (a.count ∙ sym b.count), a.output ∙ sym b.output)
