-- Past check 6: what the parts ask, and what they come to. Assumes nothing.
use Prim.Native.Nat.{ℕ, ◌-◌, ◌≤◌}
use mathlib.Core.Path.{◌≡◌, refl, sym, ap, ap₂, ◌∙◌}
use mathlib.Core.List.{List, []}
use native.Mathlib.Omega.{arith}
use borrow.Author.Rules.{rules}
use lib.ListN.{length, take, drop}
use lib.Seq.{length-take-le}
use lib.IntN.{ℤ}
use lib.Ieee.{Float}
use Rattle.method.specs.declared.Sides.{Sides}
use Rattle.method.specs.declared.Settings.{Settings}
use Rattle.method.specs.declared.Answer.{Answer}
use Rattle.std.specs.Prelude.{Option, None, Some, Result, Ok, Err}
use Rattle.method.specs.Cast.{Cast, cells, worst, interior}
use Rattle.method.specs.Walks.{depth, sealed}
use Rattle.method.specs.Answers.{check, Verdict, passed, refused, verdict, refusal, accepted, unfinished}
use Rattle.method.specs.Rooms.{float_need, word_need}
use Rattle.method.specs.Ticks.{rounded}
use Rattle.method.specs.Rounds.{solved, failed, ending}
use Rattle.method.specs.Solving.{Asked, Solved, checks_from7, handed_back, answer_of, pressures_of, ended}
use Rattle.theory.specs.Sides.{Fit}
use Rattle.theory.proofs.Worst.{end_worst}
use Rattle.answers.specs.declared.Passed.{Passed}
use Rattle.answers.specs.declared.Halt.{Halt}
use Rattle.answers.specs.declared.Measured.{Measured}
use Rattle.answers.specs.declared.Worst.{Worst}
use Rattle.answers.specs.Ends.{end_of, number_of_end, rounds_of_end}
use Rattle.worst.specs.Worst.{Sought, worst_of}
use Rattle.distances.specs.Search.{Roomy}
use Rattle.acceptance.specs.Trial as Trial
use Rattle.bands.proofs.Calls.{words_enough}
use Rattle.theory.proofs.Verdicts.{fails_at, passes_on}
use Rattle.rounds.specs.declared.Plan.{Plan}
use Rattle.rounds.specs.Rounds.{cast_of, EndOf}
use Rattle.rounds.proofs.Turns.{fit_planned}
use Rattle.solve.specs.Work.{PrepareAsked, PlanOf, OfCast, RunAsked, Ran, Checked, from_seven, Worked}

-- ---- one set of values
module _ {g : Sides} {ls : List ℕ} {vs : List ℤ} {t : Settings} {m : Measured} {plan : Plan} {bytes words : List ℕ} {floats pressures : ℕ}
    (z : RunAsked g ls vs t m plan bytes words floats pressures) where
  pub run_fit : Fit g
  run_fit = fit_planned z.ready.planned

  pub asked_x : (s : List Float) → length s ≡ floats → Trial.Asked g ls vs (take (length ls - 0) (drop 0 s))
  asked_x s q =
      let n : length ls - 0 ≡ cells g = omega (arith, z.ready.planned.labelled) in
      let long : length (take (cells g) s) ≡ cells g = length-take-le (cells g) s (omega (arith, z.ready.planned.prepared.roomy)) in
      record { sides = run_fit; labelled = z.ready.planned.labelled; valued = z.ready.valued; long = ap (λ m. length (take m s)) n ∙ long }

  pub labelled_run : length ls ≡ cells g
  labelled_run = z.ready.planned.labelled

  pub tolerance_run : t.tolerance ≤ 1000000
  tolerance_run = z.ready.tolerance

-- how the rounds ended, by what `rounds::run` promises
module _ (g : Sides) (ls : List ℕ) (vs : List ℤ) (t : Settings) (e : Result Passed Halt) (s : List Float) (z : EndOf g ls vs t e s) where
  abbrev k : Cast
  k = cast_of g ls vs

  end_is : ending (cast_of g ls vs) t ≡ end_of e (rounded (cast_of g ls vs) (take (cells g) s))
  unfolding ending
  end_is = z.is

  module _ (p : Passed) (h : e ≡ Ok p) (long : length ls ≡ cells g) where
    end_accepted : ending k t ≡ solved p.rounds p.worst (rounded k (take (cells g) s))
    unfolding end_of
    end_accepted = end_is ∙ ap (λ x. end_of x (rounded k (take (cells g) s))) h

    same_x : rounded k (take (length ls - 0) (drop 0 s)) ≡ rounded k (take (cells g) s)
    same_x = let m : length ls - 0 ≡ cells g = omega arith in ap (λ j. rounded k (take j s)) m

    pub sought : t.tolerance ≤ 1000000 → Trial.Asked g ls vs (take (length ls - 0) (drop 0 s)) → Sought g ls vs (take (length ls - 0) (drop 0 s)) p.worst
    sought small a =
        let there = end_worst k t p.rounds p.worst (rounded k (take (cells g) s)) long end_accepted in
        record { asked = a; is = there.0 ∙ ap (worst k) (sym same_x); small = omega (arith, there.1) }

    pub ran_accepted : (m : Measured) (at : Worst) (ps qs : List ℤ) (r : Answer) → OfCast g ls m → qs ≡ rounded k (take (length ls - 0) (drop 0 s))
        → at ≡ worst_of k (rounded k (take (length ls - 0) (drop 0 s))) → r ≡ accepted p.rounds p.worst at.cell at.left m.interior m.depth → Ran k t ps r qs
    unfolding answer_of pressures_of
    ran_accepted m at ps qs r c q a b =
        let here : at ≡ worst_of k (rounded k (take (cells g) s)) = a ∙ ap (worst_of k) same_x in
        record {
          answer = b ∙ rw (here, c.interior_is, c.depth_is) refl ∙ sym (ap (answer_of k) end_accepted);
          pressures = q ∙ same_x ∙ sym (ap (pressures_of ps) end_accepted);
        }

  pub ran_unfinished : (n o : ℕ) (h : Halt) (m : Measured) (ps : List ℤ) (r : Answer) → e ≡ Err h → OfCast g ls m → n ≡ number_of_end h → o ≡ rounds_of_end h → r ≡ unfinished n o m.interior m.depth
      → Ran k t ps r ps
  unfolding answer_of pressures_of end_of
  ran_unfinished n o h m ps r q c i j b =
      let end : ending k t ≡ failed n o = end_is ∙ ap (λ x. end_of x (rounded k (take (cells g) s))) q ∙ ap₂ failed (sym i) (sym j) in
      record { answer = b ∙ rw (c.interior_is, c.depth_is) refl ∙ sym (ap (answer_of k) end); pressures = sym (ap (pressures_of ps) end) }

-- ---- check 7, and what comes after it
module _ {g : Sides} {ls : List ℕ} {vs : List ℤ} {t : Settings} {pressures bytes floats words : ℕ} (z : Checked g ls vs t pressures bytes floats words) where
  pub search_room : (room : List ℕ) → length room ≡ words → Roomy g ls room
  unfolding word_need
  search_room room q = record { fit = z.fit; sized = z.labelled; long = omega (arith, z.words_long) }

  pub prepare_asked : (w : Option ℕ) → w ≡ sealed g ls → w ≡ None → (room : List ℕ) → length room ≡ words → PrepareAsked g ls t.levels bytes (length room)
  prepare_asked w e h room q = record {
    fit = z.fit;
    labelled = z.labelled;
    least = z.levels_least;
    most = z.levels_most;
    bytes_long = omega (arith, z.bytes_long);
    words_long = words_enough g ls z.fit z.labelled (z.reached (sym e ∙ h)) z.first_air z.first_is_air t.levels (length room) (omega (arith, z.words_long));
  }

  pub run_asked : (m : Measured) (plan : Plan) (bs ws : List ℕ) → OfCast g ls m → PlanOf g ls t.levels plan bs ws → RunAsked g ls vs t m plan bs ws floats pressures
  unfolding float_need
  run_asked m plan bs ws o p = record {
    of_cast = o;
    ready = record {
      planned = record {
        prepared = record { levels = p.prepared; size = ap cells (sym p.sides); roomy = omega (arith, z.floats_long) };
        sides = p.sides;
        labels = p.labels;
        labelled = z.labelled;
      };
      valued = z.valued;
      levels = p.count;
      tolerance = z.tolerance;
      limit = z.limit;
    };
    pressed = z.pressed;
  }

module _ (a : Asked) where
  seven_fails : (place : ℕ) → sealed a.cast.sides a.cast.labels ≡ Some place → verdict checks_from7 a ≡ refused 7 place
  unfolding checks_from7
  seven_fails place e = fails_at _ _ a place e

  seven_passes : sealed a.cast.sides a.cast.labels ≡ None → verdict checks_from7 a ≡ passed
  unfolding checks_from7 verdict
  seven_passes e = passes_on (check 7 (λ (b : Asked). sealed b.cast.sides b.cast.labels)) [] a e

  abbrev by_verdict : Verdict → Solved
  by_verdict v = elim v [ refused num place ↦ handed_back a (refusal num place) a.pressures | passed ↦ ended a (ending a.cast a.settings) ]

  from_refused : (place : ℕ) → sealed a.cast.sides a.cast.labels ≡ Some place → from_seven a ≡ handed_back a (refusal 7 place) a.pressures
  unfolding from_seven
  from_refused place e = ap by_verdict (seven_fails place e)

  from_passed : sealed a.cast.sides a.cast.labels ≡ None
      → from_seven a ≡ handed_back a (answer_of a.cast (ending a.cast a.settings)) (pressures_of a.pressures (ending a.cast a.settings))
  unfolding from_seven ended
  from_passed e = ap by_verdict (seven_passes e)

module _ (g : Sides) (ls : List ℕ) (vs : List ℤ) (t : Settings) (ps : List ℤ) (r : Answer) (w : Option ℕ) (e : w ≡ sealed g ls) where
  pub worked_refused : (place : ℕ) → w ≡ Some place → r ≡ refusal 7 place → Worked (cast_of g ls vs) t ps r ps
  worked_refused place h q = record {
    is = λ a ek et ep.
        from_refused a place (ap (λ (k : Cast). sealed k.sides k.labels) ek ∙ sym e ∙ h) ∙ ap₂ (handed_back a) (sym q) ep;
  }

  pub worked_run : (qs : List ℤ) → w ≡ None → Ran (cast_of g ls vs) t ps r qs → Worked (cast_of g ls vs) t ps r qs
  worked_run qs h p = record {
    is = λ a ek et ep.
        let end : ending a.cast a.settings ≡ ending (cast_of g ls vs) t = ap₂ ending ek et in
        from_passed a (ap (λ (k : Cast). sealed k.sides k.labels) ek ∙ sym e ∙ h)
        ∙ ap₂ (handed_back a) (ap₂ answer_of ek end ∙ sym p.answer) (ap₂ pressures_of ep end ∙ sym p.pressures);
  }

-- what is measured of the cast
pub of_cast : (g : Sides) (ls : List ℕ) (i d : ℕ) → i ≡ interior g ls → d ≡ depth g ls → OfCast g ls (record { interior = i; depth = d })
of_cast g ls i d a b = record { interior_is = a; depth_is = b }

pub ruleset working = (rules, search_room, prepare_asked, run_asked, worked_run)
