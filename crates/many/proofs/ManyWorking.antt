-- Past check 6: what the parts ask, and what they come to. Assumes nothing.
use Prim.Native.Nat.{ℕ, ◌≤◌}
use mathlib.Core.Path.{◌≡◌, refl, sym, ap, ap₂, ◌∙◌}
use mathlib.Core.Bool.{Bool, true, false, false≢true}
use mathlib.Core.List.{List, []}
use native.Mathlib.Omega.{arith}
use borrow.Author.Rules.{rules}
use borrow.Author.Tests.{eq-eqb, le-leb, le-ltb}
use lib.Dec.{T, ltb, leb}
use lib.IntN.{ℤ, pos, nat_abs}
use lib.ListN.{length, replicate, length-replicate, get_or-replicate}
use Rattle.laws.specs.Binary64.{+0}
use Rattle.method.specs.declared.Sides.{Sides}
use Rattle.method.specs.declared.Settings.{Settings}
use Rattle.method.specs.declared.Answer.{Answer}
use Rattle.std.specs.Prelude.{Option, None, Some}
use Rattle.method.specs.Cast.{cells, label_at, field, widest, first, between, settings_fit, bad_value, interior}
use Rattle.method.specs.Walks.{sealed}
use Rattle.method.specs.Walks.{depth as Cast·depth}
use Rattle.method.specs.Answers.{check, Verdict, passed, refused, verdict, refusal, done}
use Rattle.method.specs.Rooms.{byte_need, float_need, word_need}
use Rattle.method.specs.Solving.{Asked, lengths_fit, checks_before7}
use Rattle.method.specs.Many.{AskedMany, SolvedMany, many_checks_from7, many_handed_back, end_to_end, set_pressures, set_fields}
use Rattle.theory.specs.Sides.{Fit}
use Rattle.theory.proofs.Sides.{fit}
use Rattle.theory.proofs.Verdicts.{AllPass, all_pass}
use Rattle.theory.proofs.Firsts.{Search, found, none, search_first}
use Rattle.theory.proofs.Accepted.{some_air, reaching}
use Rattle.theory.proofs.Reach.{test_air}
use Rattle.distances.specs.Search.{Roomy}
use Rattle.bands.proofs.Calls.{words_enough}
use Rattle.theory.proofs.Verdicts.{fails_at, passes_on}
use Rattle.rounds.specs.declared.Plan.{Plan}
use Rattle.rounds.specs.Rounds.{cast_of}
use Rattle.solve.specs.Work.{PrepareAsked, PlanOf}
use Rattle.solve.proofs.Working.{of_cast}
use Rattle.solve.proofs.Judging.{both}
use Rattle.solve.proofs.Solving.{in_range}
use Rattle.many_sets.specs.Sets.{Past, CastReady, SetsOf}
use Rattle.many_sets.proofs.Setting.{five_passes}
use Rattle.many.specs.ManySolve.{ManyChecked, many_from_seven, ManyWorked}

-- ---- the same cast with every value 0: it passes all checks of a single call, so that what is known of such a cast
-- is known of this one
not_so : (b : Bool) → b ≡ false → T b → ⊥
not_so true e h = false≢true (sym e)
not_so false e h = h

enough : {A : Type 0} (n : ℕ) (x : A) → leb n (length (replicate n x)) ≡ true
enough n x = le-leb n (length (replicate n x)) (omega (arith, length-replicate n x))

no_size : (w : ℕ) → ltb w 0 ≡ false
no_size w = le-ltb w 0 (omega arith)

module _ (g : Sides) (ls : List ℕ) (t : Settings) (p : Past g ls t) where
  abbrev zeros : List ℤ
  zeros = replicate (cells g) (pos 0)

  abbrev still : Asked
  still = record {
    cast = cast_of g ls zeros;
    settings = t;
    pressures = zeros;
    bytes = replicate (byte_need (cells g)) 0;
    floats = replicate (float_need (cells g)) +0;
    words = replicate (word_need (cells g)) 0;
  }

  lengths_still : lengths_fit still ≡ true
  unfolding lengths_fit
  lengths_still = rw (
    eq-eqb (length ls) (cells g) p.labelled,
    eq-eqb (length zeros) (cells g) (length-replicate (cells g) (pos 0)),
    enough {A = ℕ} (byte_need (cells g)) 0,
    enough (float_need (cells g)) +0,
    enough {A = ℕ} (word_need (cells g)) 0,
  )

  no_bad_value : bad_value g ls zeros ≡ None
  unfolding bad_value
  no_bad_value = go (search_first _ (cells g))
    where
      go : Search (λ c. ltb (widest (label_at ls c)) (nat_abs (field zeros c))) (cells g) → first (λ c. ltb (widest (label_at ls c)) (nat_abs (field zeros c))) (cells g) ≡ None
      go (none e r) = e
      go (found c e r) =
          absurd (not_so (ltb (widest (label_at ls c)) (nat_abs (field zeros c))) (ap (λ z. ltb (widest (label_at ls c)) (nat_abs z)) (get_or-replicate (cells g) c (pos 0) (pos 0) r.below) ∙ no_size (widest (label_at ls c))) r.here)

  ok : AllPass checks_before7 still
  ok = all_pass checks_before7 still (five_passes g ls zeros t zeros p still (record { cast = refl; settings = refl; pressures = refl; roomy = lengths_still }) no_bad_value)

  levels_known : (1 ≤ t.levels) × (t.levels ≤ 6)
  unfolding settings_fit
  levels_known = in_range 1 6 t.levels (both (between 1 6 t.levels) (between 0 1000 t.rounds) (both (between 0 1000000 t.tolerance) _ p.settings).1).0

  past_prepare : (bytes words : ℕ) → bytes ≡ byte_need (cells g) → words ≡ word_need (cells g) → PrepareAsked g ls t.levels bytes words
  past_prepare bytes words eb ew =
      let air = some_air still ok in
      let f = fit g p.sides in
      record {
        fit = f;
        labelled = p.labelled;
        least = levels_known.0;
        most = levels_known.1;
        bytes_long = omega arith;
        words_long = words_enough g ls f p.labelled (λ i h. let r = reaching still ok p.none_sealed i h in (r.0, r.2.walk)) air.0 (test_air ls air.0 air.2) t.levels words (omega arith);
      }

-- ---- what the parts of the work ask
module _ {g : Sides} {ls : List ℕ} {t : Settings} {sets : ℕ} {vs : List ℤ} {pressures answers bytes floats words : ℕ}
    (z : ManyChecked g ls t sets vs pressures answers bytes floats words) where
  pub search_room : (room : List ℕ) → length room ≡ words → Roomy g ls room
  unfolding word_need
  search_room room q = record { fit = fit g z.sides; sized = z.labelled; long = omega (arith, z.words_long) }

  pub count_fit : Fit g
  count_fit = fit g z.sides

  module _ (w : Option ℕ) (e : w ≡ sealed g ls) (h : w ≡ None) where
    pub prepare_asked : (room : List ℕ) → length room ≡ words → PrepareAsked g ls t.levels bytes (length room)
    prepare_asked room q = past_prepare g ls t (z.past (sym e ∙ h)) bytes (length room) z.bytes_long (q ∙ z.words_long)

    pub cast_ready : (i d : ℕ) → i ≡ interior g ls → d ≡ Cast·depth g ls → (plan : Plan) (bs ws : List ℕ) → PlanOf g ls t.levels plan bs ws
        → CastReady g ls t (record { interior = i; depth = d }) plan bs ws floats
    cast_ready i d ei ed plan bs ws p = record { past = z.past (sym e ∙ h); measured = of_cast g ls i d ei ed; planned = p; floats_long = z.floats_long }

-- ---- check 7, and what comes after it
module _ (a : AskedMany) where
  abbrev by_verdict : Verdict → SolvedMany
  by_verdict v = elim v [
    | refused num place ↦ many_handed_back a (refusal num place) a.pressures a.answers
    | passed ↦ many_handed_back a done (end_to_end a.sets (set_pressures a)) (end_to_end a.sets (set_fields a))
  ]

  from_refused : (place : ℕ) → sealed a.sides a.labels ≡ Some place → many_from_seven a ≡ many_handed_back a (refusal 7 place) a.pressures a.answers
  unfolding many_from_seven many_checks_from7
  from_refused place e = ap by_verdict (fails_at (check 7 (λ (b : AskedMany). sealed b.sides b.labels)) [] a place e)

  from_passed : sealed a.sides a.labels ≡ None → many_from_seven a ≡ many_handed_back a done (end_to_end a.sets (set_pressures a)) (end_to_end a.sets (set_fields a))
  unfolding many_from_seven many_checks_from7 verdict
  from_passed e = ap by_verdict (passes_on (check 7 (λ (b : AskedMany). sealed b.sides b.labels)) [] a e)

back_same : (a : AskedMany) {r r' : Answer} {ps ps' rs rs' : List ℤ} → r ≡ r' → ps ≡ ps' → rs ≡ rs' → many_handed_back a r ps rs ≡ many_handed_back a r' ps' rs'
back_same a er ep es = rw (er, ep, es) refl

module _ (g : Sides) (ls : List ℕ) (vs : List ℤ) (t : Settings) (sets : ℕ) (ps rs : List ℤ) (r : Answer) (w : Option ℕ) (e : w ≡ sealed g ls) where
  pub worked_refused : (place : ℕ) → w ≡ Some place → r ≡ refusal 7 place → ManyWorked g ls vs t sets ps rs r ps rs
  worked_refused place h q = record {
    is = λ a z.
        from_refused a place (ap₂ sealed z.sides z.labels ∙ sym e ∙ h) ∙ back_same a (sym q) z.pressures z.answers;
  }

  pub worked_sets : (qs ss : List ℤ) → w ≡ None → r ≡ refusal 0 0 → SetsOf g ls vs t sets ps rs qs ss → ManyWorked g ls vs t sets ps rs r qs ss
  unfolding done
  worked_sets qs ss h q p = record {
    is = λ a z.
        let is = p.is a z in
        from_passed a (ap₂ sealed z.sides z.labels ∙ sym e ∙ h)
        ∙ back_same a (sym q) (ap (λ k. end_to_end k (set_pressures a)) z.sets ∙ sym is.0) (ap (λ k. end_to_end k (set_fields a)) z.sets ∙ sym is.1);
  }

pub ruleset many_working = (rules, search_room, prepare_asked, cast_ready, worked_refused, worked_sets)
