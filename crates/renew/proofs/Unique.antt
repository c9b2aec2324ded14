-- The promise of `renew` allows one result and one final content of the output. Assumes nothing.
use mathlib.Core.Path.{◌≡◌, sym, ◌∙◌}
use mathlib.Core.List.{List}
use Prim.Native.Nat.{ℕ}
use Rattle.method.specs.declared.Order.{Order}
use Rattle.method.specs.declared.Settings.{Settings}
use Rattle.session_write.specs.declared.Written.{Written}
use Rattle.renew.specs.Renews.{RenewOf}

pub renew_one : (room : ℕ) (o : Order) (t : Settings) (bs old : List ℕ) (r q : Written) (x y : List ℕ) → RenewOf room o t bs old r x → RenewOf room o t bs old q y
    → (r.answer ≡ q.answer) × ((r.count ≡ q.count) × (x ≡ y))
renew_one room o t bs old r q x y a b = (a.answer ∙ sym b.answer, (a.count ∙ sym b.count, a.output ∙ sym b.output))
