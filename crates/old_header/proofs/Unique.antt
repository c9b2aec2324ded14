-- The promise of `read_old_header` allows one result. Assumes nothing.
use mathlib.Core.Path.{◌≡◌, sym, ap, ap₂, ◌∙◌}
use mathlib.Core.List.{List}
use Prim.Native.Nat.{ℕ, suc, ◌≤◌}
use native.Mathlib.Omega.{arith}
use lib.ListN.{length, drop, length-drop}
use Rattle.std.specs.Prelude.{Option, None, Some, Result, Ok, Err}
use Rattle.old_header.specs.OldLines.{OldHeaderOf, old_named_by, old_header_in, old_wrong_in, old_start_in}
use Rattle.old_header.specs.declared.OldHeader.{OldHeader}

-- where a line is wrong, one more than its number
abbrev line_number : Option ℕ → ℕ
line_number None = 0
line_number (Some k) = suc k

header_eq : (h g : OldHeader) → h.sides ≡ g.sides → h.unit ≡ g.unit → h.start ≡ g.start → h ≡ g
header_eq h g a b c = ap₂ (λ x y. record { sides = x; unit = y; start = h.start }) a b ∙ ap (λ z. record { sides = g.sides; unit = g.unit; start = z }) c

start_one : (l : List ℕ) (i j : ℕ) → i ≤ length l → j ≤ length l → drop i l ≡ drop j l → i ≡ j
start_one l i j a b e = omega (arith, ap length e, length-drop i l, length-drop j l)

pub old_header_one : (bytes : List ℕ) (r q : Result OldHeader ℕ) → OldHeaderOf bytes r → OldHeaderOf bytes q → r ≡ q
unfolding old_wrong_in old_header_in old_start_in
old_header_one bytes (Err k) (Err m) a b = let e : k ≡ m = omega (arith, ap line_number (sym a.line ∙ b.line)) in ap Err e
old_header_one bytes (Err k) (Ok h) a b = absurd (omega (arith, ap line_number (sym a.line ∙ b.line)))
old_header_one bytes (Ok h) (Err k) a b = absurd (omega (arith, ap line_number (sym a.line ∙ b.line)))
old_header_one bytes (Ok h) (Ok g) a b =
    let e : old_named_by bytes h ≡ old_named_by bytes g = sym a.is ∙ b.is in
    ap Ok (header_eq h g (ap (λ x. x.sides) e) (ap (λ x. x.unit) e) (start_one bytes h.start g.start a.within b.within (ap (λ x. x.body) e)))
