-- Hand cases of one cast with many sets: each set gets its own answer; a fault of a set is its own. Assumes nothing.
use Prim.Native.Nat.{ℕ}
use mathlib.Core.Path.{refl}
use mathlib.Core.List.{List, [], ◌∷◌, ◌++◌}
use lib.ListN.{replicate}
use lib.IntN.{ℤ, pos}
use Rattle.laws.proofs.Table.{Case, AllHold}
use Rattle.laws.specs.Binary64.{+0}
use Rattle.method.specs.Many.{AskedMany, many_untouched, solving_many}
use Rattle.method.specs.Answers.{refusal, done}
use Rattle.method.specs.Computing.{computing}
use Rattle.method.proofs.Cases.{case, row, five}

-- labels 1 0 1 and so many sets with these values; pressures of 7, answers of 9
abbrev pub sets : ℕ → List ℤ → AskedMany
sets n vs = record {
  sides = row 3;
  labels = 1 ∷ 0 ∷ 1 ∷ [];
  settings = record { tolerance = 1; levels = 1; rounds = 5 };
  sets = n;
  values = vs;
  pressures = replicate 6 (pos 7);
  answers = replicate 16 (pos 9);
  bytes = replicate 23 5;
  floats = replicate 89 five;
  words = replicate 7 5;
}

-- the first set as in case c, the second with a source that is too large
abbrev pub mixed : List ℤ
mixed = pos 0 ∷ pos 1 ∷ pos 0 ∷ pos 0 ∷ pos 2000 ∷ pos 0 ∷ []

unfoldable pub table : List Case
table =
    case (solving_many (sets 2 mixed)) (record {
      answer = done;
      pressures = pos 0 ∷ pos 0 ∷ pos 0 ∷ pos 7 ∷ pos 7 ∷ pos 7 ∷ [];
      answers = pos 0 ∷ pos 0 ∷ pos 0 ∷ pos 1 ∷ pos 1 ∷ pos 1 ∷ pos 1 ∷ pos 1 ∷ (pos 5 ∷ pos 1 ∷ replicate 6 (pos 0));
      bytes = replicate 22 0 ++ (5 ∷ []);
      floats = replicate 88 +0 ++ (five ∷ []);
      words = replicate 6 0 ++ (5 ∷ []);
    })
    ∷ case (solving_many (sets 3 mixed)) (many_untouched (sets 3 mixed) (refusal 2 0))
    ∷ []

-- THE CLAIM
pub all_many_hold : AllHold table
unfolding table computing
all_many_hold = (refl, (refl, tt))
