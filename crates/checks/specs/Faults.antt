-- Checks 4 and 5 cell by cell, in method's words: its `bad_label` and `bad_value` are the first such cell
-- (proofs/CheckLaws.antt).
use Rattle.std.specs.Prelude.{Bool, List, ℕ, ltb, ℤ, nat_abs, Result}
use Rattle.method.specs.Cast.{label_at, field, widest, first}
use Rattle.answers.specs.declared.Fault.{Fault}
use Rattle.answers.specs.declared.Fault.TheVariants.{BadLabel, BadValue}
use Rattle.checks.specs.Rulings.{ruling_by, first_of}

unfoldable pub bad_label_at : List ℕ → ℕ → Bool
bad_label_at ls c = ltb 2 (label_at ls c)

unfoldable pub bad_value_at : List ℕ → List ℤ → ℕ → Bool
bad_value_at ls vs c = ltb (widest (label_at ls c)) (nat_abs (field vs c))

-- both checks of n cells, 4 before 5
abbrev pub cell_ruling : List ℕ → List ℤ → ℕ → Result (Unit {0}) Fault
cell_ruling ls vs n = first_of (ruling_by BadLabel (first (bad_label_at ls) n)) (ruling_by BadValue (first (bad_value_at ls vs) n))
