-- Each set of a call of many sets has exactly what its single call gives; so question 3 and what an accepted answer
-- is hold of each set's answer. Assumes nothing.
use Prim.Native.Nat.{ℕ, ◌<◌, ◌≤◌}
use mathlib.Core.Path.{◌≡◌, refl, sym, ap, subst, ◌∙◌}
use mathlib.Core.List.{[], append-nil}
use native.Mathlib.Omega.{arith}
use lib.IntN.{ℤ, pos, nat_abs}
use Rattle.laws.specs.Whole.{◌-ᶻ◌, ◌*ᶻ◌}
use Rattle.method.specs.declared.Answer.{Answer}
use Rattle.std.specs.Prelude.{Option, None, Some}
use Rattle.method.specs.Cast.{label_at, field}
use Rattle.method.specs.Walks.{sealed}
use Rattle.method.specs.Answers.{Verdict, passed, refused, verdict, refusal, done}
use Rattle.method.specs.Solving.{Solved, solving}
use Rattle.theory.specs.Exact.{Solves, bound}
use Rattle.theory.specs.Answered.{Accepted}
use Rattle.theory.proofs.Verdicts.{AllPass, Judged, fine, faulty, judge, no_fault}
use Rattle.theory.proofs.Accepted.{accepted_is}
use Rattle.theory.proofs.Question3.{question_3}
use Rattle.method.specs.Many.{AskedMany, SolvedMany, many_size, fields, field_count, stretch, end_to_end, single, many_lengths_fit, many_checks_before7, many_checks_from7, many_untouched, many_handed_back, set_pressures, set_fields, solving_many}
use Rattle.many_checks.specs.ManyAnswered.{AnswerOfSet, of_set}
use Rattle.many_checks.proofs.ManyLaws.{Lent, lent, laid_stretch, fields_one, set_pressures_length, set_fields_length}

-- ---- how an answer 0 of the whole call came about
pub record CameMany (a : AskedMany) : Type 0 where
  pub checked : AllPass many_checks_before7 a
  pub none_sealed : sealed a.sides a.labels ≡ None
  pub result : solving_many a ≡ many_handed_back a done (end_to_end a.sets (set_pressures a)) (end_to_end a.sets (set_fields a))

pub came_many : (a : AskedMany) → (solving_many a).answer.number ≡ 0 → CameMany a
unfolding solving_many many_checks_before7 many_checks_from7 verdict many_untouched many_handed_back refusal
came_many a z = go (judge many_checks_before7 a) (sealed a.sides a.labels) refl
  where
    seven : Option ℕ → SolvedMany
    seven f = elim (elim f as (λ _. Verdict) [ Some place ↦ refused 7 place | None ↦ passed ]) as (λ _. SolvedMany) [
      | refused num place ↦ many_handed_back a (refusal num place) a.pressures a.answers
      | passed ↦ many_handed_back a done (end_to_end a.sets (set_pressures a)) (end_to_end a.sets (set_fields a))
    ]

    whole : Verdict → SolvedMany
    whole v = elim v [ refused num place ↦ many_untouched a (refusal num place) | passed ↦ seven (sealed a.sides a.labels) ]

    number : SolvedMany → ℕ
    number r = r.answer.number

    go : Judged many_checks_before7 a → (f : Option ℕ) → sealed a.sides a.labels ≡ f → CameMany a
    go (faulty num place v f) g q = let r = f 1 6 (omega arith) in absurd (omega (arith, r.0, z, ap number (ap whole v)))
    go (fine v p) (Some place) q = absurd (omega (arith, z, ap number (ap whole v ∙ ap seven q)))
    go (fine v p) None q = record { checked = p; none_sealed = q; result = ap whole v ∙ ap seven q }

module _ (a : AskedMany) (z : (solving_many a).answer.number ≡ 0) where
  is_lent : Lent a
  unfolding many_checks_before7
  is_lent = lent a (no_fault (many_lengths_fit a) (came_many a z).checked.1.0)

  -- EACH SET'S PRESSURES AND ANSWER are those of its single call
  pub set_pressures_are : (s : ℕ) → s < a.sets → stretch (many_size a) s (solving_many a).pressures ≡ (solving (single a s)).pressures
  unfolding many_handed_back set_pressures
  set_pressures_are s h =
      ap (λ (r : SolvedMany). stretch (many_size a) s r.pressures) (came_many a z).result
      ∙ ap (stretch (many_size a) s) (sym (append-nil (end_to_end a.sets (set_pressures a))))
      ∙ laid_stretch (many_size a) a.sets (set_pressures a) (set_pressures_length a is_lent) s h []

  pub set_fields_are : (s : ℕ) → s < a.sets → stretch field_count s (solving_many a).answers ≡ fields (solving (single a s)).answer
  unfolding many_handed_back set_fields
  set_fields_are s h =
      ap (λ (r : SolvedMany). stretch field_count s r.answers) (came_many a z).result
      ∙ ap (stretch field_count s) (sym (append-nil (end_to_end a.sets (set_fields a))))
      ∙ laid_stretch field_count a.sets (set_fields a) (λ i l. set_fields_length a is_lent i) s h []

module _ {a : AskedMany} {s : ℕ} {r : Answer} (z : AnswerOfSet a s r) where
  answer_is : (solving (single a s)).answer ≡ r
  answer_is = fields_one (solving (single a s)).answer r (sym (set_fields_are a z.whole s z.among) ∙ z.stands)

  pressures_are : (solving (single a s)).pressures ≡ stretch (many_size a) s (solving_many a).pressures
  pressures_are = sym (set_pressures_are a z.whole s z.among)

  -- THE SET HAS WHAT ITS SINGLE CALL GIVES
  pub of_set_is : of_set a s r ≡ solving (single a s)
  unfolding of_set
  of_set_is = rw (← answer_is, ← pressures_are) refl

  zero_too : r.number ≡ 0 → (solving (single a s)).answer.number ≡ 0
  zero_too h = ap (λ (q : Answer). q.number) answer_is ∙ h

  -- WHAT AN ACCEPTED ANSWER IS, of a set
  pub accepted_set : r.number ≡ 0 → Accepted (single a s) (of_set a s r)
  accepted_set h = subst (Accepted (single a s)) (sym of_set_is) (accepted_is (single a s) (zero_too h))

  -- QUESTION 3 of a set: the pressures in its stretch, and the worst, interior and depth among its fields
  pub question_3_set : r.number ≡ 0 → (m : ℕ) → 1 ≤ m → (y : ℕ → ℤ) → Solves (single a s).cast m y → (c : ℕ) → label_at a.labels c ≡ 0
      → nat_abs (pos m *ᶻ field (stretch (many_size a) s (solving_many a).pressures) c -ᶻ y c) ≤ bound m r.worst r.interior r.depth
  unfolding of_set single
  question_3_set h m l y sol c e = at (question_3 (single a s) (zero_too h) m l y sol c e)
    where
      close : Solved → Type 0
      close q = nat_abs (pos m *ᶻ field q.pressures c -ᶻ y c) ≤ bound m q.answer.worst q.answer.interior q.answer.depth

      at : close (solving (single a s)) → close (of_set a s r)
      at k = subst close (sym of_set_is) k
