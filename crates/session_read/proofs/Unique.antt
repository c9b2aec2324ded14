-- Each promise of a public function allows one result and one final content of what was lent. Assumes nothing.
use mathlib.Core.Path.{◌≡◌, sym, ap, ap₂, ◌∙◌}
use mathlib.Core.List.{List}
use Prim.Native.Nat.{ℕ}
use lib.IntN.{ℤ}
use Rattle.method.specs.Reading.{reading}
use Rattle.session_read.specs.Reads.{ReadOf, asked}
use Rattle.session_read.specs.declared.Session.{Session}

session_eq : (r q : Session) → r.answer ≡ q.answer → r.sides ≡ q.sides → r.order ≡ q.order → r.settings ≡ q.settings → r.start ≡ q.start → r ≡ q
session_eq r q a s o t p =
    ap₂ (λ x y. record { answer = x; sides = y; order = r.order; settings = r.settings; start = r.start }) a s
    ∙ ap₂ (λ x y. record { answer = q.answer; sides = q.sides; order = x; settings = y; start = r.start }) o t
    ∙ ap (λ x. record { answer = q.answer; sides = q.sides; order = q.order; settings = q.settings; start = x }) p

pub read_one : (bytes : List ℕ) (old : List ℤ) (r q : Session) (x y : List ℤ) → ReadOf bytes old r x → ReadOf bytes old q y → (r ≡ q) × (x ≡ y)
read_one bytes old r q x y a b =
    (session_eq r q (a.answer ∙ sym b.answer) (a.sides ∙ sym b.sides) (a.order ∙ sym b.order) (a.settings ∙ sym b.settings) (a.start ∙ sym b.start), a.values ∙ sym b.values)

pub labels_one : (bytes : List ℕ) (room : ℕ) (x y : List ℕ) → x ≡ (reading (asked bytes room)).labels → y ≡ (reading (asked bytes room)).labels → x ≡ y
labels_one bytes room x y a b = a ∙ sym b
