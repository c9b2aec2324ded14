-- Laws of the count of air cells. Assumes nothing.
use Prim.Native.Nat.{ℕ, ◌+◌, ◌≤◌}
use mathlib.Core.Path.{◌≡◌, sym, ap, ◌∙◌}
use mathlib.Core.Bool.{cond}
use mathlib.Core.List.{List}
use borrow.Author.Rules.{rules}
use borrow.Author.Tests.{eq-eqb, ne_eqb}
use native.Mathlib.Omega.{arith}
use Rattle.laws.specs.Loops.{up}
use Rattle.laws.proofs.Loops.{Up, up_none, up_more, up_end}
use Rattle.method.specs.declared.Sides.{Sides}
use Rattle.method.specs.Cast.{cells, label_at, is_air, judged, interior}
use Rattle.theory.proofs.Counting.{counted_le}

-- one cell more, by its label
pub counts_one : (ls : List ℕ) (c k l : ℕ) → l ≡ label_at ls c → l ≡ 0 → k + 1 ≡ cond (judged ls c) (k + 1) k
unfolding judged is_air
counts_one ls c k l e z = ap (λ b. cond b (k + 1) k) (sym (eq-eqb (label_at ls c) 0 (sym e ∙ z)))

pub counts_none : (ls : List ℕ) (c k l : ℕ) → l ≡ label_at ls c → (l ≡ 0 → ⊥) → k ≡ cond (judged ls c) (k + 1) k
unfolding judged is_air
counts_none ls c k l e z = ap (λ b. cond b (k + 1) k) (sym (ne_eqb (label_at ls c) 0 (λ q. z (e ∙ q))))

-- the running count
abbrev pub counting : List ℕ → ℕ → ℕ → ℕ
counting ls c i = cond (judged ls c) (i + 1) i

pub counted_few : (ls : List ℕ) (c k : ℕ) → Up (counting ls) 0 c k → k ≤ c
counted_few ls c k u = omega (arith, u.is, counted_le (judged ls) c)

pub counted_all : (g : Sides) (ls : List ℕ) (n c k : ℕ) → n ≡ cells g → c ≤ n → n ≤ c → Up (counting ls) 0 c k → k ≡ interior g ls
unfolding interior
counted_all g ls n c k e a b u = up_end n u a b ∙ ap (λ m. up (counting ls) m 0) e

pub ruleset counts = (rules, counts_one, counts_none, up_none, up_more, counted_few, counted_all)
