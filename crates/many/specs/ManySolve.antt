-- What the solver of many sets is asked, and its promise.
use Rattle.std.specs.Prelude.{ℕ, ◌≡◌, true, List, length, ℤ, Float, None}
use Rattle.method.specs.declared.Sides.{Sides}
use Rattle.method.specs.declared.Settings.{Settings}
use Rattle.method.specs.declared.Answer.{Answer}
use Rattle.method.specs.Cast.{cells, sides_fit}
use Rattle.method.specs.Walks.{sealed}
use Rattle.method.specs.Answers.{passed, refused, verdict, refusal, done}
use Rattle.method.specs.Rooms.{byte_need, float_need, word_need}
use Rattle.method.specs.Many.{AskedMany, SolvedMany, many_checks_from7, many_handed_back, end_to_end, set_pressures, set_fields, solving_many}
use Rattle.many_sets.specs.Sets.{Past, SameCall, SetsAsked}

-- what is handed in and lent
abbrev pub asked_many : Sides → List ℕ → Settings → ℕ → List ℤ → List ℤ → List ℤ → List ℕ → List Float → List ℕ → AskedMany
asked_many g ls t sets vs ps rs bytes floats words = record {
  sides = g;
  labels = ls;
  settings = t;
  sets = sets;
  values = vs;
  pressures = ps;
  answers = rs;
  bytes = bytes;
  floats = floats;
  words = words;
}

-- THE PROMISE: the answer, and what everything lent holds, are document 02's, for every input
pub record SolveManyOf (a : AskedMany) (r : Answer) (ps rs : List ℤ) (bytes : List ℕ) (floats : List Float) (words : List ℕ) : Type 0 where
  pub answer : r ≡ (solving_many a).answer
  pub pressures : ps ≡ (solving_many a).pressures
  pub answers : rs ≡ (solving_many a).answers
  pub byte_room : bytes ≡ (solving_many a).bytes
  pub float_room : floats ≡ (solving_many a).floats
  pub word_room : words ≡ (solving_many a).words

-- ---- past check 6, in rooms of just the size needed
pub record ManyChecked (g : Sides) (ls : List ℕ) (t : Settings) (sets : ℕ) (vs : List ℤ) (pressures answers bytes floats words : ℕ) : Type 0 where
  pub past : sealed g ls ≡ None → Past g ls t
  pub labelled : length ls ≡ cells g
  pub sides : sides_fit g ≡ true
  pub sets_asked : SetsAsked g vs sets pressures answers
  pub bytes_long : bytes ≡ byte_need (cells g)
  pub floats_long : floats ≡ float_need (cells g)
  pub words_long : words ≡ word_need (cells g)

-- from check 7 on, as `solving_many` has it
unfoldable pub many_from_seven : AskedMany → SolvedMany
many_from_seven a =
    elim (verdict many_checks_from7 a) [
      | refused num place ↦ many_handed_back a (refusal num place) a.pressures a.answers
      | passed ↦ many_handed_back a done (end_to_end a.sets (set_pressures a)) (end_to_end a.sets (set_fields a))
    ]

pub record ManyWorked (g : Sides) (ls : List ℕ) (vs : List ℤ) (t : Settings) (sets : ℕ) (ps rs : List ℤ) (r : Answer) (qs ss : List ℤ) : Type 0 where
  pub is : (a : AskedMany) → SameCall a g ls vs t sets ps rs → many_from_seven a ≡ many_handed_back a r qs ss
