-- Each promise of the C interface allows one result and one final content of what was lent (`quetz_solve`'s is
-- `solve_one`). Assumes nothing.
use mathlib.Core.Path.{◌≡◌, sym, ap, ap₂, ◌∙◌}
use mathlib.Core.List.{List}
use Prim.Native.Nat.{ℕ}
use lib.IntN.{ℤ}
use Rattle.method.specs.declared.Sides.{Sides}
use Rattle.method.specs.declared.Settings.{Settings}
use Rattle.session_write.specs.declared.Written.{Written}
use Rattle.quetzalcup.specs.declared.Read.{Read}
use Rattle.quetzalcup.specs.Face.{ReadBack, WrittenBy}

read_eq : (r q : Read) → r.answer ≡ q.answer → r.sides ≡ q.sides → r.order ≡ q.order → r.settings ≡ q.settings → r.start ≡ q.start → r ≡ q
read_eq r q a s o t p =
    ap₂ (λ x y. record { answer = x; sides = y; order = r.order; settings = r.settings; start = r.start }) a s
    ∙ ap₂ (λ x y. record { answer = q.answer; sides = q.sides; order = x; settings = y; start = r.start }) o t
    ∙ ap (λ x. record { answer = q.answer; sides = q.sides; order = q.order; settings = q.settings; start = x }) p

pub read_back_one : (bytes : List ℕ) (old : List ℤ) (r q : Read) (x y : List ℤ) → ReadBack bytes old r x → ReadBack bytes old q y → (r ≡ q) × (x ≡ y)
read_back_one bytes old r q x y a b = (
  read_eq r q (a.answer ∙ sym b.answer) (a.sides ∙ sym b.sides) (a.order ∙ sym b.order) (a.settings ∙ sym b.settings) (a.start ∙ sym b.start),
  a.values ∙ sym b.values,
)

pub written_by_one : (s : Sides) (n : ℕ) (t : Settings) (ls : List ℕ) (vs : List ℤ) (old : List ℕ) (r q : Written) (x y : List ℕ)
    → WrittenBy s n t ls vs old r x → WrittenBy s n t ls vs old q y → (r ≡ q) × (x ≡ y)
written_by_one s n t ls vs old r q x y a b =
    (ap₂ (λ c k. record { answer = c; count = k }) (a.answer ∙ sym b.answer) (a.count ∙ sym b.count), a.output ∙ sym b.output)
