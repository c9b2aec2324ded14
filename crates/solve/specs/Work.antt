-- Past check 6: what is prepared, what is run, and what it comes to.
use Rattle.std.specs.Prelude.{ℕ, ◌≤◌, ◌≡◌, List, length, ℤ, None}
use Rattle.method.specs.declared.Sides.{Sides}
use Rattle.method.specs.declared.Settings.{Settings}
use Rattle.method.specs.declared.Answer.{Answer}
use Rattle.method.specs.Cast.{Cast, cells, label_at, interior}
use Rattle.method.specs.Walks.{depth, sealed}
use Rattle.method.specs.Answers.{passed, refused, verdict, refusal}
use Rattle.method.specs.Rooms.{byte_need, float_need, word_need}
use Rattle.method.specs.Rounds.{ending}
use Rattle.method.specs.Solving.{Asked, Solved, checks_from7, handed_back, answer_of, pressures_of, ended}
use Rattle.theory.specs.Walks.{Walk}
use Rattle.theory.specs.Levels.{air_before}
use Rattle.theory.specs.Sides.{Fit}
use Rattle.answers.specs.declared.Measured.{Measured}
use Rattle.cycle.specs.Rooms.{Prepared}
use Rattle.rounds.specs.declared.Plan.{Plan}
use Rattle.rounds.specs.Rounds.{plan_sides, plan_labels, Ready}

-- ---- prepare
pub record PrepareAsked (g : Sides) (ls : List ℕ) (levels bytes words : ℕ) : Type 0 where
  pub fit : Fit g
  pub labelled : length ls ≡ cells g
  pub least : 1 ≤ levels
  pub most : levels ≤ 6
  pub bytes_long : byte_need (cells g) ≤ bytes
  pub words_long : air_before g ls levels ≤ words

pub record PlanOf (g : Sides) (ls : List ℕ) (levels : ℕ) (plan : Plan) (bytes words : List ℕ) : Type 0 where
  pub prepared : Prepared plan.levels plan.lists plan.count bytes words
  pub sides : plan_sides plan ≡ g
  pub labels : plan_labels plan bytes ≡ ls
  pub count : plan.count ≡ levels

-- ---- run
-- what an answer says of the cast alone, as it is
pub record OfCast (g : Sides) (ls : List ℕ) (m : Measured) : Type 0 where
  pub interior_is : m.interior ≡ interior g ls
  pub depth_is : m.depth ≡ depth g ls

pub record RunAsked (g : Sides) (ls : List ℕ) (vs : List ℤ) (t : Settings) (m : Measured) (plan : Plan) (bytes words : List ℕ) (floats pressures : ℕ) : Type 0 where
  pub of_cast : OfCast g ls m
  pub ready : Ready g ls vs t plan bytes words floats
  pub pressed : pressures ≡ cells g

pub record Ran (k : Cast) (t : Settings) (ps : List ℤ) (r : Answer) (qs : List ℤ) : Type 0 where
  pub answer : r ≡ answer_of k (ending k t)
  pub pressures : qs ≡ pressures_of ps (ending k t)

-- ---- all past check 6
pub record Checked (g : Sides) (ls : List ℕ) (vs : List ℤ) (t : Settings) (pressures bytes floats words : ℕ) : Type 0 where
  pub fit : Fit g
  pub labelled : length ls ≡ cells g
  pub valued : length vs ≡ cells g
  pub pressed : pressures ≡ cells g
  pub levels_least : 1 ≤ t.levels
  pub levels_most : t.levels ≤ 6
  pub tolerance : t.tolerance ≤ 1000000
  pub limit : t.rounds ≤ 1000
  pub reached : sealed g ls ≡ None → (i : ℕ) → label_at ls i ≡ 0 → (k : ℕ) × Walk g ls i k
  pub first_air : ℕ
  pub first_is_air : label_at ls first_air ≡ 0
  pub bytes_long : bytes ≡ byte_need (cells g)
  pub floats_long : floats ≡ float_need (cells g)
  pub words_long : words ≡ word_need (cells g)

-- from check 7 on, as `solving` has it
unfoldable pub from_seven : Asked → Solved
from_seven a =
    elim (verdict checks_from7 a) [
      | refused num place ↦ handed_back a (refusal num place) a.pressures
      | passed ↦ ended a (ending a.cast a.settings)
    ]

pub record Worked (k : Cast) (t : Settings) (ps : List ℤ) (r : Answer) (qs : List ℤ) : Type 0 where
  pub is : (a : Asked) → a.cast ≡ k → a.settings ≡ t → a.pressures ≡ ps → from_seven a ≡ handed_back a r qs
