-- Document 01, "What comes back": solving, for every input. Definitions only.
use Rattle.std.specs.Prelude.{ℕ, Bool, not, ◌&&◌, List, [], ◌∷◌, leb, eqb, length, ℤ, Float}
use Rattle.laws.specs.Binary64.{+0}
use Rattle.method.specs.declared.Settings.{Settings}
use Rattle.method.specs.declared.Answer.{Answer}
use Rattle.method.specs.Cast.{Cast, cells, interior, worst_cell, worst_value, sides_fit, settings_fit, label_fault, value_fault}
use Rattle.method.specs.Walks.{depth, sealed}
use Rattle.method.specs.Answers.{refusal, accepted, unfinished, Check, check, fault, passed, refused, verdict}
use Rattle.method.specs.Rooms.{byte_need, float_need, word_need, cleared}
use Rattle.method.specs.Rounds.{End, solved, failed, ending}

-- ---- solving: what is handed in and lent
pub record Asked : Type 0 where
  pub cast : Cast
  pub settings : Settings
  pub pressures : List ℤ
  pub bytes : List ℕ
  pub floats : List Float
  pub words : List ℕ

-- the cast that the rounds are run on, of which an accepted answer speaks: the one handed in
abbrev pub solved_cast : Asked → Cast
solved_cast a = a.cast

abbrev pub size : Asked → ℕ
size a = cells a.cast.sides

-- "Labels, values and pressures handed in .. have exactly one element a cell. .. A longer room is allowed."
unfoldable pub lengths_fit : Asked → Bool
lengths_fit a =
    eqb (length a.cast.labels) (size a) && (eqb (length a.cast.values) (size a) && (eqb (length a.pressures) (size a)
    && (leb (byte_need (size a)) (length a.bytes) && (leb (float_need (size a)) (length a.floats) && leb (word_need (size a)) (length a.words)))))

-- "Solving checks 1 to 7 in that order": those before 7, which change nothing lent, and those from 7 on
unfoldable pub checks_before7 : List (Check Asked)
checks_before7 =
    check 1 (λ a. fault (not (sides_fit a.cast.sides)))
    ∷ check 2 (λ a. fault (not (lengths_fit a)))
    ∷ check 3 (λ a. fault (not (settings_fit a.settings)))
    ∷ check 4 (λ a. label_fault a.cast) ∷ check 5 (λ a. value_fault a.cast)
    ∷ check 6 (λ a. fault (eqb (interior a.cast.sides a.cast.labels) 0))
    ∷ []

unfoldable pub checks_from7 : List (Check Asked)
checks_from7 = check 7 (λ a. sealed a.cast.sides a.cast.labels) ∷ []

-- the answer, and what everything lent holds
pub record Solved : Type 0 where
  pub answer : Answer
  pub pressures : List ℤ
  pub bytes : List ℕ
  pub floats : List Float
  pub words : List ℕ

-- "change nothing lent"
unfoldable pub untouched : Asked → Answer → Solved
untouched a r = record { answer = r; pressures = a.pressures; bytes = a.bytes; floats = a.floats; words = a.words }

-- "hand back the needed part of each room as zeros (+0.0), the rest untouched"
unfoldable pub handed_back : Asked → Answer → List ℤ → Solved
handed_back a r ps = record {
  answer = r;
  pressures = ps;
  bytes = cleared (byte_need (size a)) 0 a.bytes;
  floats = cleared (float_need (size a)) +0 a.floats;
  words = cleared (word_need (size a)) 0 a.words;
}

-- how the rounds ended, as an answer: 0, 8 and 9 have rounds, interior and depth, and 0 says where it is worst
unfoldable pub answer_of : Cast → End → Answer
answer_of k (solved rounds most ps) =
    accepted rounds most (worst_cell k ps) (worst_value k ps) (interior k.sides k.labels) (depth k.sides k.labels)
answer_of k (failed num rounds) = unfinished num rounds (interior k.sides k.labels) (depth k.sides k.labels)

-- "Of a solver's answers only 0 writes pressures"
unfoldable pub pressures_of : List ℤ → End → List ℤ
pressures_of old (solved rounds most ps) = ps
pressures_of old (failed num rounds) = old

unfoldable pub ended : Asked → End → Solved
ended a e = handed_back a (answer_of a.cast e) (pressures_of a.pressures e)

unfoldable pub solving : Asked → Solved
solving a =
    elim (verdict checks_before7 a) [
      | refused num place ↦ untouched a (refusal num place)
      | passed ↦
          elim (verdict checks_from7 a) [
            | refused num place ↦ handed_back a (refusal num place) a.pressures
            | passed ↦ ended a (ending a.cast a.settings)
          ]
    ]

-- one name that opens this file
unfoldable pub computing_solving : Unit {0}
unfolding lengths_fit checks_before7 checks_from7 untouched handed_back answer_of pressures_of ended solving
computing_solving = tt
