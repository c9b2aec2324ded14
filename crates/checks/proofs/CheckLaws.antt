-- Laws of the checks: tests joined, cells one by one, and that method's checks 4 and 5 are these. Assumes nothing.
use mathlib.Core.Path.{◌≡◌, refl, sym, ap, ap₂, ◌∙◌}
use mathlib.Core.Bool.{Bool, not}
use mathlib.Core.List.{List, ◌∷◌}
use native.Mathlib.Omega.{arith}
use Prim.Native.Nat.{ℕ, zero, suc, ◌^◌, ◌≤◌, ◌<◌}
use borrow.Author.Rules.{rules}
use borrow.Author.Tests.{le-leb, lt-leb, lt-ltb, ne_eqb}
use lib.Dec.{ltb, leb, eqb}
use lib.IntN.{ℤ, pos, nat_abs}
use lib.ListN.{length, get_or}
use lib.Signed.{mag}
use mir.Syntax.{w32}
use mir.Val.{SFits, to_z, of_z}
use mir.Facts.{to_z-of_z}
use Rattle.laws.proofs.Lists.{get_or_any}
use Rattle.method.specs.declared.Sides.{Sides}
use Rattle.std.specs.Prelude.{Result}
use Rattle.answers.specs.declared.Fault.{Fault}
use Rattle.answers.specs.declared.Fault.TheVariants.{BadLabel, BadValue}
use Rattle.method.specs.Cast.{Cast, between, cells, label_at, widest, first, bad_label, bad_value, label_fault, value_fault}
use Rattle.method.specs.Answers.{Check, check, fault, verdict}
use Rattle.checks.specs.Faults.{bad_label_at, bad_value_at, cell_ruling}
use Rattle.checks.specs.Rulings.{ruling_of, ruling_by, first_of}
use Rattle.checks.proofs.RuleLaws.{label_is, value_is, ruling_more, first_assoc}

-- ---- tests in a row
pub between_low : (lo hi x : ℕ) → x < lo → leb lo x ≡ between lo hi x
unfolding between
between_low lo hi x h = rw (lt-leb lo x h)

pub between_rest : (lo hi x : ℕ) → lo ≤ x → leb x hi ≡ between lo hi x
unfolding between
between_rest lo hi x h = rw (le-leb lo x h)

-- ---- one cell
pub label_cell : (l : List ℕ) (c : ℕ) → c < length l → ltb 2 (get_or l c 0) ≡ bad_label_at l c
unfolding bad_label_at label_at
label_cell l c h = ap (ltb 2) (get_or_any l c 0 2 h)

pub value_cell : (ls : List ℕ) (vs : List ℤ) (c : ℕ) (r : Bool) → c < length ls → mag (get_or vs c (pos 0)) < 2 ^ 31
    → r ≡ ltb (widest (get_or ls c 0)) (nat_abs (to_z w32 (of_z w32 (get_or vs c (pos 0))))) → r ≡ bad_value_at ls vs c
unfolding bad_value_at label_at
value_cell ls vs c r h m q =
    let f : SFits w32 (get_or vs c (pos 0)) = record { sfits = m } in
    q ∙ ap₂ (λ x y. ltb (widest x) (nat_abs y)) (get_or_any ls c 0 2 h) (to_z-of_z f)

pub ruleset checked = (rules, between_low, between_rest, value_cell)

-- ---- method's checks 4 and 5 are the first such cell
pub label_fault_lem : (s : Sides) (ls : List ℕ) → bad_label s ls ≡ first (bad_label_at ls) (cells s)
unfolding bad_label bad_label_at
label_fault_lem s ls = refl

pub value_fault_lem : (s : Sides) (ls : List ℕ) (vs : List ℤ) → bad_value s ls vs ≡ first (bad_value_at ls vs) (cells s)
unfolding bad_value bad_value_at
value_fault_lem s ls vs = refl

-- no cell is air, as method has it and as it is counted
pub none_is : (i : ℕ) → fault (eqb i 0) ≡ fault (not (ltb 0 i))
none_is zero = refl
none_is (suc i) = ap fault (ne_eqb (suc i) 0 (λ p. omega arith)) ∙ ap (λ b. fault (not b)) (sym (lt-ltb 0 (suc i) (omega arith)))

-- in any list of checks in which they stand before others, of anything that has a cast
module _ {A : Type 0} (cast : A → Cast) (cs : List (Check A)) (a : A) (n : ℕ) (e : n ≡ cells (cast a).sides) where
  pub cells_ruled : (r : Result (Unit {0}) Fault) → verdict cs a ≡ ruling_of r
      → verdict (check 4 (λ b. label_fault (cast b)) ∷ check 5 (λ b. value_fault (cast b)) ∷ cs) a ≡ ruling_of (first_of (cell_ruling (cast a).labels (cast a).values n) r)
  cells_ruled r h =
      ruling_more _ BadLabel label_is _ a (first (bad_label_at (cast a).labels) n) _ (label_fault_lem (cast a).sides (cast a).labels ∙ ap (first _) (sym e))
      (ruling_more _ BadValue value_is cs a (first (bad_value_at (cast a).labels (cast a).values) n) r (value_fault_lem (cast a).sides (cast a).labels (cast a).values ∙ ap (first _) (sym e)) h)
      ∙ ap ruling_of (sym (first_assoc (ruling_by BadLabel (first (bad_label_at (cast a).labels) n)) (ruling_by BadValue (first (bad_value_at (cast a).labels (cast a).values) n)) r))
