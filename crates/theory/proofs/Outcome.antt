-- The result of solving, by cases: refused before 7, cut off, unfinished, or accepted. Assumes nothing.
use mathlib.Core.Path.{◌≡◌, refl, ap, ◌∙◌}
use Prim.Native.Nat.{ℕ, ◌≤◌}
use mathlib.Core.Bool.{true}
use native.Mathlib.Omega.{arith}
use Rattle.std.specs.Prelude.{Option, None, Some}
use Rattle.method.specs.Walks.{sealed}
use Rattle.method.specs.Answers.{refusal, Verdict, passed, refused, verdict}
use Rattle.method.specs.Ticks.{rounded, passes}
use Rattle.method.specs.Rounds.{State, pass, fail, ending}
use Rattle.method.specs.Solving.{Asked, Solved, checks_before7, checks_from7, untouched, handed_back, answer_of, pressures_of, ended, solving}
use Rattle.theory.proofs.Verdicts.{AllPass, Judged, fine, faulty, judge}
use Rattle.theory.proofs.Ends.{Ended, passing, failing, ending_is}

pub data Outcome (a : Asked) : Type 0 where
  early : (num place : ℕ) → 1 ≤ num → num ≤ 6 → solving a ≡ untouched a (refusal num place) → Outcome a
  cut_off : (place : ℕ) → AllPass checks_before7 a → sealed a.cast.sides a.cast.labels ≡ Some place → solving a ≡ handed_back a (refusal 7 place) a.pressures → Outcome a
  unended : (num : ℕ) (st : State) → 8 ≤ num → num ≤ 9 → AllPass checks_before7 a → sealed a.cast.sides a.cast.labels ≡ None
      → solving a ≡ handed_back a (answer_of a.cast (fail a.cast a.settings num st)) a.pressures → Outcome a
  right : (st : State) → passes a.cast a.settings st.x ≡ true → AllPass checks_before7 a → sealed a.cast.sides a.cast.labels ≡ None
      → solving a ≡ handed_back a (answer_of a.cast (pass a.cast a.settings st)) (rounded a.cast st.x)
      → Outcome a

pub outcome : (a : Asked) → Outcome a
unfolding solving checks_before7 checks_from7 ended pressures_of pass fail verdict
outcome a = go (judge checks_before7 a) (sealed a.cast.sides a.cast.labels) refl (ending_is a.cast a.settings)
  where
    seven : Option ℕ → Solved
    seven f = elim (elim f as (λ _. Verdict) [ Some place ↦ refused 7 place | None ↦ passed ]) as (λ _. Solved) [
      | refused num place ↦ handed_back a (refusal num place) a.pressures
      | passed ↦ ended a (ending a.cast a.settings)
    ]

    whole : Verdict → Solved
    whole v = elim v [ refused num place ↦ untouched a (refusal num place) | passed ↦ seven (sealed a.cast.sides a.cast.labels) ]

    go : Judged checks_before7 a → (f : Option ℕ) → sealed a.cast.sides a.cast.labels ≡ f
        → Ended a.cast a.settings (ending a.cast a.settings) → Outcome a
    go (faulty num place v f) g q e = let r = f 1 6 (omega arith) in early num place r.0 r.1 (ap whole v)
    go (fine v p) (Some place) q e = cut_off place p q (ap whole v ∙ ap seven q)
    go (fine v p) None q (passing st e t) = right st t p q (ap whole v ∙ ap seven q ∙ ap (ended a) e)
    go (fine v p) None q (failing num st l h e) = unended num st l h p q (ap whole v ∙ ap seven q ∙ ap (ended a) e)
