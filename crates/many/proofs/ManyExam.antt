-- What the promise of many sets comes to: one result; each set's single call; question 3 of each set's very answer;
-- hand cases by the code. Assumes nothing.
use Prim.Native.Nat.{ℕ, ◌<◌, ◌≤◌}
use mathlib.Core.Path.{◌≡◌, refl, sym, ap, ◌∙◌}
use mathlib.Core.List.{List}
use lib.IntN.{ℤ, pos, nat_abs}
use lib.Ieee.{Float}
use Rattle.laws.specs.Whole.{◌-ᶻ◌, ◌*ᶻ◌}
use Rattle.method.specs.declared.Answer.{Answer}
use Rattle.method.specs.Cast.{label_at, field}
use Rattle.method.specs.Solving.{solving}
use Rattle.method.specs.Many.{AskedMany, SolvedMany, many_size, fields, field_count, stretch, single, solving_many}
use Rattle.theory.specs.Exact.{Solves, bound}
use Rattle.many_checks.specs.ManyAnswered.{AnswerOfSet}
use Rattle.many_checks.proofs.ManyAnswers.{set_pressures_are, set_fields_are, question_3_set}
use Rattle.many.specs.ManySolve.{SolveManyOf}

-- the answer and all that was lent, as they are at the end
abbrev pub left : Answer → List ℤ → List ℤ → List ℕ → List Float → List ℕ → SolvedMany
left r ps rs bytes floats words = record { answer = r; pressures = ps; answers = rs; bytes = bytes; floats = floats; words = words }

module _ {a : AskedMany} {r : Answer} {ps rs : List ℤ} {bytes : List ℕ} {floats : List Float} {words : List ℕ} (z : SolveManyOf a r ps rs bytes floats words) where
  pub many_is : left r ps rs bytes floats words ≡ solving_many a
  many_is = rw (z.answer, z.pressures, z.answers, z.byte_room, z.float_room, z.word_room) refl

  -- THE PROMISE IS ONE RESULT
  pub many_one : {q : Answer} {ps' rs' : List ℤ} {bytes' : List ℕ} {floats' : List Float} {words' : List ℕ} → SolveManyOf a q ps' rs' bytes' floats' words'
      → left r ps rs bytes floats words ≡ left q ps' rs' bytes' floats' words'
  many_one {q} {ps'} {rs'} {bytes'} {floats'} {words'} y =
      let other : left q ps' rs' bytes' floats' words' ≡ solving_many a = rw (y.answer, y.pressures, y.answers, y.byte_room, y.float_room, y.word_room) refl in
      many_is ∙ sym other

  module _ (whole : r.number ≡ 0) (s : ℕ) (among : s < a.sets) where
    zero : (solving_many a).answer.number ≡ 0
    zero = sym (ap (λ (q : Answer). q.number) z.answer) ∙ whole

    -- EACH SET HAS WHAT ITS SINGLE CALL GIVES, in the stretches that the code left
    pub set_pressures_code : stretch (many_size a) s ps ≡ (solving (single a s)).pressures
    set_pressures_code = ap (stretch (many_size a) s) z.pressures ∙ set_pressures_are a zero s among

    pub set_fields_code : stretch field_count s rs ≡ fields (solving (single a s)).answer
    set_fields_code = ap (stretch field_count s) z.answers ∙ set_fields_are a zero s among

    -- QUESTION 3 of a set, by the code: the pressures in its stretch, and the worst, interior and depth in its
    -- stretch of the answers
    pub question_3_set_code : (q : Answer) → stretch field_count s rs ≡ fields q → q.number ≡ 0 → (m : ℕ) → 1 ≤ m → (y : ℕ → ℤ) → Solves (single a s).cast m y
        → (c : ℕ) → label_at a.labels c ≡ 0 → nat_abs (pos m *ᶻ field (stretch (many_size a) s ps) c -ᶻ y c) ≤ bound m q.worst q.interior q.depth
    question_3_set_code q stands h m l y sol c e =
        let there : AnswerOfSet a s q = record { whole = zero; among = among; stands = ap (stretch field_count s) (sym z.answers) ∙ stands } in
        rw z.pressures (question_3_set there h m l y sol c e)
