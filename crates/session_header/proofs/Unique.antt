-- The promises of `read_header` and of `number_line` allow one result. Assumes nothing.
use mathlib.Core.Path.{◌≡◌, refl, sym, ap, ap₂, ◌∙◌}
use mathlib.Core.List.{List, []}
use Prim.Native.Nat.{ℕ, suc, ◌≤◌}
use native.Mathlib.Omega.{arith}
use lib.ListN.{length, drop, length-drop}
use Rattle.std.specs.Prelude.{Option, None, Some, Result, Ok, Err}
use Rattle.method.specs.Form.{Line, bad, good}
use Rattle.session_header.specs.Lines.{HeaderOf, LineOf, named, header_in, wrong_in, start_in, line_of, taken}
use Rattle.session_header.specs.declared.Read.{Read}
use Rattle.session_header.specs.declared.Header.{Header}

-- where a line is wrong, one more than its number
abbrev line_number : Option ℕ → ℕ
line_number None = 0
line_number (Some k) = suc k

header_eq : (h g : Header) → h.sides ≡ g.sides → h.order ≡ g.order → h.settings ≡ g.settings → h.start ≡ g.start → h ≡ g
header_eq h g a b c d =
    ap₂ (λ x y. record { sides = x; order = y; settings = h.settings; start = h.start }) a b
    ∙ ap₂ (λ x y. record { sides = g.sides; order = g.order; settings = x; start = y }) c d

-- parts that go to the end are the same only if they start at the same place
start_one : (l : List ℕ) (i j : ℕ) → i ≤ length l → j ≤ length l → drop i l ≡ drop j l → i ≡ j
start_one l i j a b e = omega (arith, ap length e, length-drop i l, length-drop j l)

pub header_one : (bytes : List ℕ) (r q : Result Header ℕ) → HeaderOf bytes r → HeaderOf bytes q → r ≡ q
unfolding wrong_in header_in start_in
header_one bytes (Err k) (Err m) a b = let e : k ≡ m = omega (arith, ap line_number (sym a.line ∙ b.line)) in ap Err e
header_one bytes (Err k) (Ok h) a b = absurd (omega (arith, ap line_number (sym a.line ∙ b.line)))
header_one bytes (Ok h) (Err k) a b = absurd (omega (arith, ap line_number (sym a.line ∙ b.line)))
header_one bytes (Ok h) (Ok g) a b =
    let e : named bytes h ≡ named bytes g = sym a.is ∙ b.is in
    ap Ok (header_eq h g (ap (λ x. x.sides) e) (ap (λ x. x.order) e) (ap (λ x. x.settings) e) (start_one bytes h.start g.start a.within b.within (ap (λ x. x.body) e)))

-- a line by one more than its value, or 0, and by what is left behind it
abbrev value_in : Line → ℕ
value_in bad = 0
value_in (good v rest) = suc v

abbrev rest_in : Line → List ℕ
rest_in bad = []
rest_in (good v rest) = rest

pub line_one : (reads : List ℕ → Line) (bytes : List ℕ) (r q : Option Read) → LineOf reads bytes r → LineOf reads bytes q → r ≡ q
unfolding line_of taken
line_one reads bytes None None a b = refl
line_one reads bytes None (Some w) a b = absurd (omega (arith, ap value_in (sym a.is ∙ b.is)))
line_one reads bytes (Some v) None a b = absurd (omega (arith, ap value_in (sym a.is ∙ b.is)))
line_one reads bytes (Some v) (Some w) a b =
    let e : good v.value (drop v.taken bytes) ≡ good w.value (drop w.taken bytes) = sym a.is ∙ b.is in
    let same : v.value ≡ w.value = omega (arith, ap value_in e) in
    ap Some (ap₂ (λ x y. record { value = x; taken = y }) same (start_one bytes v.taken w.taken a.within b.within (ap rest_in e)))
