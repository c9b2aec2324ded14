-- More hand cases of one cast with many sets (document 02, wish 1), beside method's: one table, one claim, computed
-- by the checker; and four of them by the promise of the code. Assumes nothing.
use Prim.Native.Nat.{ℕ, ◌+◌, ◌-◌, ◌*◌}
use mathlib.Core.Path.{◌≡◌, refl, ◌∙◌}
use mathlib.Core.List.{List, [], ◌∷◌, ◌++◌, map}
use lib.ListN.{replicate}
use lib.IntN.{ℤ, pos, negsuc}
use lib.Ieee.{Float}
use Rattle.laws.specs.Binary64.{+0}
use Rattle.laws.proofs.Table.{Case, AllHold, holds_at}
use Rattle.method.specs.declared.Answer.{Answer}
use Rattle.method.specs.Many.{AskedMany, SolvedMany, fields, field_count, solving_many}
use Rattle.method.specs.Computing.{computing}
use Rattle.many.specs.ManySolve.{SolveManyOf}
use Rattle.many.proofs.ManyExam.{left, many_is}
use Rattle.method.proofs.Cases.{case, answer, answer_at, row, five}

-- ---- what the cases are about: a row of n cells with one level; lent pressures of 7, answers of 4 and rooms of 5
-- that are one element longer than the need
abbrev pub many : ℕ → List ℕ → ℕ → List ℤ → ℕ → ℕ → AskedMany
many n ls sets vs tolerance rounds = record {
  sides = row n;
  labels = ls;
  settings = record { tolerance = tolerance; levels = 1; rounds = rounds };
  sets = sets;
  values = vs;
  pressures = replicate (sets * n) (pos 7);
  answers = replicate (sets * field_count) (pos 4);
  bytes = replicate (2 * n + 17) 5;
  floats = replicate (8 * n + 65) five;
  words = replicate (2 * n + 1) 5;
}

-- the answer at the end and all that was lent: the rooms cleared up to their need; or everything as it was
abbrev pub ends : ℕ → Answer → List ℤ → List ℤ → SolvedMany
ends n r ps rs = record {
  answer = r;
  pressures = ps;
  answers = rs;
  bytes = replicate (2 * n + 16) 0 ++ (5 ∷ []);
  floats = replicate (8 * n + 64) +0 ++ (five ∷ []);
  words = replicate (2 * n) 0 ++ (5 ∷ []);
}

abbrev pub stays : AskedMany → Answer → SolvedMany
stays a r = record { answer = r; pressures = a.pressures; answers = a.answers; bytes = a.bytes; floats = a.floats; words = a.words }

-- an air cell between two openings, with three sets: one that is accepted, one that stalls, one with a source too large
abbrev pub three : AskedMany
three = many 3 (1 ∷ 0 ∷ 1 ∷ []) 3 (pos 10 ∷ pos 0 ∷ pos 20 ∷ pos 0 ∷ pos 1 ∷ pos 0 ∷ pos 0 ∷ pos 1001 ∷ pos 0 ∷ []) 0 5

-- the same with a limit of one round and two sets, the first at its limit
abbrev pub limited : AskedMany
limited = many 3 (1 ∷ 0 ∷ 1 ∷ []) 2 (pos 0 ∷ pos 1 ∷ pos 0 ∷ negsuc 9 ∷ pos 0 ∷ pos 20 ∷ []) 0 1

-- a sealed cell, and a cast with no air, each with a value that is too large
abbrev pub closed : AskedMany
closed = many 5 (1 ∷ 0 ∷ 2 ∷ 0 ∷ 2 ∷ []) 1 (replicate 5 (pos 9999999)) 0 5

abbrev pub airless : AskedMany
airless = many 2 (1 ∷ 2 ∷ []) 1 (replicate 2 (pos 9999999)) 0 5

-- as many sets as said, each of one value
abbrev pub sets : ℕ → AskedMany
sets k = many 1 (0 ∷ []) k (replicate k (pos 0)) 0 5

-- two sets are said, and what is lent has the lengths given
abbrev pub lent : ℕ → ℕ → ℕ → AskedMany
lent vs ps rs = record {
  sides = row 2;
  labels = 1 ∷ 0 ∷ [];
  settings = record { tolerance = 0; levels = 1; rounds = 5 };
  sets = 2;
  values = replicate vs (pos 0);
  pressures = replicate ps (pos 7);
  answers = replicate rs (pos 4);
  bytes = replicate 20 5;
  floats = replicate 80 five;
  words = replicate 4 5;
}

abbrev pub number_of : AskedMany → ℕ
number_of a = (solving_many a).answer.number

-- ---- the table
unfoldable pub table : List Case
table =
    case (solving_many three)
    (ends 3 (answer 0 0 0 0 0 0) (pos 10 ∷ pos 15 ∷ pos 20 ∷ replicate 6 (pos 7)) (fields (answer_at 0 0 1 0 1 (pos 0) 1 1) ++ fields (answer 9 0 1 0 1 1) ++ fields (answer 5 1 0 0 0 0)))
    ∷ case (solving_many limited)
    (ends 3 (answer 0 0 0 0 0 0) (pos 7 ∷ pos 7 ∷ pos 7 ∷ negsuc 9 ∷ pos 5 ∷ pos 20 ∷ []) (fields (answer 8 0 1 0 1 1) ++ fields (answer_at 0 0 1 0 1 (pos 0) 1 1)))
    ∷ case (solving_many closed) (ends 5 (answer 7 3 0 0 0 0) closed.pressures closed.answers)
    ∷ case (solving_many airless) (stays airless (answer 6 0 0 0 0 0))
    ∷ case (map (λ k. number_of (sets k)) (0 ∷ 1 ∷ 64 ∷ 65 ∷ [])) (3 ∷ 7 ∷ 7 ∷ 3 ∷ [])
    ∷ case (number_of (record { sides = row 1; labels = 0 ∷ []; settings = record { tolerance = 0; levels = 1; rounds = 5 }; sets = 4294967295; values = []; pressures = []; answers = []; bytes = []; floats = []; words = [] })) 2
    ∷ case (map number_of (lent 4 4 (2 * field_count) ∷ lent 3 4 (2 * field_count) ∷ lent 5 4 (2 * field_count) ∷ lent 4 3 (2 * field_count) ∷ lent 4 5 (2 * field_count) ∷ lent 4 4 (2 * field_count - 1) ∷ lent 4 4 (2 * field_count + 1) ∷ [])) (0 ∷ 2 ∷ 2 ∷ 2 ∷ 2 ∷ 2 ∷ 2 ∷ [])
    ∷ case (fields (answer_at 1 2 3 4 5 (negsuc 5) 7 8)) (pos 1 ∷ pos 2 ∷ pos 3 ∷ pos 4 ∷ pos 5 ∷ negsuc 5 ∷ pos 7 ∷ pos 8 ∷ [])
    ∷ []

-- THE CLAIM
pub all_sets_hold : AllHold table
unfolding table computing
all_sets_hold = (refl, (refl, (refl, (refl, (refl, (refl, (refl, (refl, tt))))))))

-- ---- the cases that the code is held to, each by itself
pub case_three : solving_many three
    ≡ ends 3 (answer 0 0 0 0 0 0) (pos 10 ∷ pos 15 ∷ pos 20 ∷ replicate 6 (pos 7)) (fields (answer_at 0 0 1 0 1 (pos 0) 1 1) ++ fields (answer 9 0 1 0 1 1) ++ fields (answer 5 1 0 0 0 0))
unfolding table
case_three = holds_at table all_sets_hold 0

pub case_limited : solving_many limited
    ≡ ends 3 (answer 0 0 0 0 0 0) (pos 7 ∷ pos 7 ∷ pos 7 ∷ negsuc 9 ∷ pos 5 ∷ pos 20 ∷ []) (fields (answer 8 0 1 0 1 1) ++ fields (answer_at 0 0 1 0 1 (pos 0) 1 1))
unfolding table
case_limited = holds_at table all_sets_hold 1

pub case_closed : solving_many closed ≡ ends 5 (answer 7 3 0 0 0 0) closed.pressures closed.answers
unfolding table
case_closed = holds_at table all_sets_hold 2

pub case_airless : solving_many airless ≡ stays airless (answer 6 0 0 0 0 0)
unfolding table
case_airless = holds_at table all_sets_hold 3

-- ---- by the promise of the code
module _ (r : Answer) (ps rs : List ℤ) (bytes : List ℕ) (floats : List Float) (words : List ℕ) where
  pub solved_three : SolveManyOf three r ps rs bytes floats words → left r ps rs bytes floats words
      ≡ ends 3 (answer 0 0 0 0 0 0) (pos 10 ∷ pos 15 ∷ pos 20 ∷ replicate 6 (pos 7)) (fields (answer_at 0 0 1 0 1 (pos 0) 1 1) ++ fields (answer 9 0 1 0 1 1) ++ fields (answer 5 1 0 0 0 0))
  solved_three z = many_is z ∙ case_three

  pub solved_limited : SolveManyOf limited r ps rs bytes floats words → left r ps rs bytes floats words
      ≡ ends 3 (answer 0 0 0 0 0 0) (pos 7 ∷ pos 7 ∷ pos 7 ∷ negsuc 9 ∷ pos 5 ∷ pos 20 ∷ []) (fields (answer 8 0 1 0 1 1) ++ fields (answer_at 0 0 1 0 1 (pos 0) 1 1))
  solved_limited z = many_is z ∙ case_limited

  pub solved_closed : SolveManyOf closed r ps rs bytes floats words → left r ps rs bytes floats words ≡ ends 5 (answer 7 3 0 0 0 0) closed.pressures closed.answers
  solved_closed z = many_is z ∙ case_closed

  pub solved_airless : SolveManyOf airless r ps rs bytes floats words → left r ps rs bytes floats words ≡ stays airless (answer 6 0 0 0 0 0)
  solved_airless z = many_is z ∙ case_airless
