-- Each promise of a public function allows one result and one final content of the output. Assumes nothing.
use mathlib.Core.Path.{◌≡◌, sym, ◌∙◌}
use mathlib.Core.List.{List}
use Prim.Native.Nat.{ℕ}
use Rattle.text_out.specs.Puts.{Put, DigitsOf}

pub put_one : (bytes old : List ℕ) (at : ℕ) (x y : List ℕ) (r q : ℕ) → Put bytes old at x r → Put bytes old at y q → (r ≡ q) × (x ≡ y)
put_one bytes old at x y r q a b = (a.next ∙ sym b.next, a.is ∙ sym b.is)

pub digits_one : (n r q : ℕ) → DigitsOf n r → DigitsOf n q → r ≡ q
digits_one n r q a b = a.is ∙ sym b.is
