-- What a call of many sets hands back for one set: its answer as it stands in the answers, and its stretch of the
-- pressures.
use Rattle.std.specs.Prelude.{ℕ, ◌<◌, ◌≡◌}
use Rattle.method.specs.declared.Answer.{Answer}
use Rattle.method.specs.Solving.{Solved, solving}
use Rattle.method.specs.Many.{AskedMany, many_size, fields, field_count, stretch, single, solving_many}

-- set s of a call past 7 has the answer r
pub record AnswerOfSet (a : AskedMany) (s : ℕ) (r : Answer) : Type 0 where
  pub whole : (solving_many a).answer.number ≡ 0
  pub among : s < a.sets
  pub stands : stretch field_count s (solving_many a).answers ≡ fields r

-- that answer with the set's stretch of the pressures; the rooms are those of its single call, of which no theorem
-- speaks
unfoldable pub of_set : AskedMany → ℕ → Answer → Solved
of_set a s r = record {
  answer = r;
  pressures = stretch (many_size a) s (solving_many a).pressures;
  bytes = (solving (single a s)).bytes;
  floats = (solving (single a s)).floats;
  words = (solving (single a s)).words;
}
