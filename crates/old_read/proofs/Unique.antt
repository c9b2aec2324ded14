-- Each promise of a public function allows one result and one final content of what was lent. Assumes nothing.
use mathlib.Core.Path.{◌≡◌, sym, ap₂, ◌∙◌}
use mathlib.Core.List.{List}
use Prim.Native.Nat.{ℕ}
use lib.IntN.{ℤ}
use Rattle.method.specs.declared.Settings.{Settings}
use Rattle.method.specs.OldForm.{old_reading}
use Rattle.old_read.specs.OldReads.{OldReadOf, old_asked}
use Rattle.old_read.specs.declared.OldSession.{OldSession}

session_eq : (r q : OldSession) → r.answer ≡ q.answer → r.sides ≡ q.sides → r.unit ≡ q.unit → r.start ≡ q.start → r ≡ q
session_eq r q a s u k =
    ap₂ (λ x y. record { answer = x; sides = y; unit = r.unit; start = r.start }) a s
    ∙ ap₂ (λ x y. record { answer = q.answer; sides = q.sides; unit = x; start = y }) u k

pub old_read_one : (t : Settings) (bytes : List ℕ) (old : List ℤ) (r q : OldSession) (x y : List ℤ) → OldReadOf t bytes old r x → OldReadOf t bytes old q y → (r ≡ q) × (x ≡ y)
old_read_one t bytes old r q x y a b =
    (session_eq r q (a.answer ∙ sym b.answer) (a.sides ∙ sym b.sides) (a.unit ∙ sym b.unit) (a.start ∙ sym b.start), a.values ∙ sym b.values)

pub old_labels_one : (t : Settings) (bytes : List ℕ) (room : ℕ) (x y : List ℕ) → x ≡ (old_reading (old_asked t bytes room)).labels → y ≡ (old_reading (old_asked t bytes room)).labels → x ≡ y
old_labels_one t bytes room x y a b = a ∙ sym b
