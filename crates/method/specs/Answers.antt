-- Document 01, "What comes back". Definitions only.
use Rattle.std.specs.Prelude.{ℕ, Bool, true, false, List, [], ◌∷◌, ℤ, pos, Option, None, Some}
use Rattle.method.specs.declared.Answer.{Answer}

-- ---- "Every answer has: number, place, rounds, worst, interior, depth. Fields not named below are 0."
-- Document 02, wish 5: worstcell and worstvalue after worst. "Both are 0 on every answer but 0."
unfoldable pub refusal : ℕ → ℕ → Answer
refusal num place = record { number = num; place = place; rounds = 0; worst = 0; worstcell = 0; worstvalue = pos 0; interior = 0; depth = 0 }

unfoldable pub accepted : ℕ → ℕ → ℕ → ℤ → ℕ → ℕ → Answer
accepted rounds worst cell left interior depth = record {
  number = 0;
  place = 0;
  rounds = rounds;
  worst = worst;
  worstcell = cell;
  worstvalue = left;
  interior = interior;
  depth = depth;
}

unfoldable pub unfinished : ℕ → ℕ → ℕ → ℕ → Answer
unfinished num rounds interior depth =
    record { number = num; place = 0; rounds = rounds; worst = 0; worstcell = 0; worstvalue = pos 0; interior = interior; depth = depth }

-- "A session read or written is answer 0 with the other fields 0."
unfoldable pub done : Answer
done = refusal 0 0

-- ---- checks in order, each over the whole of what was handed in before the next: the first that fails gives number
-- and place
pub record Check (A : Type 0) : Type 0 where
  pub number : ℕ
  pub fails : A → Option ℕ

abbrev pub check : {A : Type 0} → ℕ → (A → Option ℕ) → Check A
check num fails = record { number = num; fails = fails }

-- a fault that has no place
unfoldable pub fault : Bool → Option ℕ
fault true = Some 0
fault false = None

pub data Verdict : Type 0 where
  passed : Verdict
  refused : ℕ → ℕ → Verdict

unfoldable pub verdict : {A : Type 0} → List (Check A) → A → Verdict
verdict [] a = passed
verdict (c ∷ cs) a = elim (c.fails a) [ Some place ↦ refused c.number place | None ↦ verdict cs a ]

-- one name that opens this file
unfoldable pub computing_answers : Unit {0}
unfolding refusal accepted unfinished done fault verdict
computing_answers = tt
