-- The entry point: what is known once no check before 7 fails, and what everything lent holds at the end. Assumes
-- nothing.
use Prim.Native.Nat.{ℕ, ◌+◌, ◌-◌, ◌*◌, ◌≤◌}
use mathlib.Core.Path.{◌≡◌, refl, sym, ap, ◌∙◌}
use mathlib.Core.Bool.{true}
use mathlib.Core.List.{List, ◌++◌}
use native.Mathlib.Omega.{arith}
use borrow.Author.Tests.{eqb-true, leb-true}
use borrow.Rule.Slice.PartMut.{mid_of, put_mid, same_len_mid}
use lib.Dec.{leb, eqb}
use lib.IntN.{ℤ}
use lib.Ieee.{Float}
use lib.ListN.{length, drop}
use lib.Seq.{length-take-le}
use Rattle.laws.specs.Binary64.{+0}
use Rattle.method.specs.declared.Sides.{Sides}
use Rattle.method.specs.declared.Settings.{Settings}
use Rattle.method.specs.declared.Answer.{Answer}
use Rattle.method.specs.Cast.{cells, between, settings_fit}
use Rattle.method.specs.Answers.{Verdict, passed, refused, verdict, refusal}
use Rattle.method.specs.Rooms.{byte_need, float_need, word_need, cleared}
use Rattle.method.specs.Solving.{Asked, Solved, lengths_fit, checks_before7, untouched, handed_back, solving}
use Rattle.theory.specs.Sides.{Fit}
use Rattle.theory.proofs.Sides.{fit}
use Rattle.theory.proofs.Verdicts.{AllPass, all_pass, no_fault}
use Rattle.theory.proofs.Accepted.{fit_sides, some_air, reaching}
use Rattle.theory.proofs.Reach.{test_air}
use Rattle.grid.proofs.Steps.{cells_most}
use Rattle.std.specs.Prelude.{Result, Ok, Err}
use Rattle.answers.specs.declared.Fault.{Fault}
use Rattle.answers.specs.Faults.{number_of, place_of}
use Rattle.checks.specs.Rulings.{ruling_of}
use Rattle.rounds.specs.Rounds.{cast_of}
use Rattle.solve.specs.Solve.{asked, SolveOf}
use Rattle.solve.specs.Work.{Checked, from_seven, Worked}
use Rattle.rooms.proofs.Clears.{cleared_home}
use Rattle.solve.proofs.Judging.{both}

pub in_range : (lo hi x : ℕ) → between lo hi x ≡ true → (lo ≤ x) × (x ≤ hi)
unfolding between
in_range lo hi x e = let p = both (leb lo x) (leb x hi) e in (leb-true lo x p.0, leb-true x hi p.1)

-- ---- `solving`, by what the checks before 7 say
module _ (a : Asked) where
  abbrev by_checks : Verdict → Solved
  by_checks v = elim v [ refused num place ↦ untouched a (refusal num place) | passed ↦ from_seven a ]

  pub past_six : verdict checks_before7 a ≡ passed → solving a ≡ from_seven a
  unfolding solving from_seven
  past_six e = ap by_checks e

  pub before_seven : (num place : ℕ) → verdict checks_before7 a ≡ refused num place → solving a ≡ untouched a (refusal num place)
  unfolding solving from_seven
  before_seven num place e = ap by_checks e

-- ---- a part of just the need, lent, come home and cleared
pub needed_bytes : (n : ℕ) → 2 * n + 16 ≡ byte_need n
unfolding byte_need
needed_bytes n = refl

pub needed_floats : (n : ℕ) → 8 * n + 64 ≡ float_need n
unfolding float_need
needed_floats n = refl

pub needed_words : (n : ℕ) → 2 * n ≡ word_need n
unfolding word_need
needed_words n = refl

pub home : {A : Type 0} (z : A) (need m : ℕ) (e part : List A) → m ≡ need → m ≤ length e → length part ≡ length (mid_of 0 (m - 0) e)
    → cleared need z (put_mid 0 (m - 0) e part) ≡ cleared need z e
home z need m e part q h k =
    let same : m - 0 ≡ need = omega arith in
    let long : length part ≡ need = k ∙ length-take-le (m - 0) e (omega arith) ∙ same in
    ap (λ j. cleared need z (part ++ drop j e)) same ∙ cleared_home z need e part (omega arith) long

-- ---- what no check before 7 speaks against
module _ (g : Sides) (ls : List ℕ) (vs : List ℤ) (t : Settings) (ps : List ℤ) (bytes : List ℕ) (floats : List Float) (words : List ℕ) where
  abbrev a : Asked
  a = asked g ls vs t ps bytes floats words

  -- with n the number of labels, as the code has it
  pub record Known : Type 0 where
    pub passes : verdict checks_before7 a ≡ passed
    pub fit : Fit g
    pub labelled : length ls ≡ cells g
    pub valued : length vs ≡ cells g
    pub pressed : length ps ≡ cells g
    pub few : length ls ≤ 32768
    pub bytes_room : 2 * length ls + 16 ≤ length bytes
    pub floats_room : 8 * length ls + 64 ≤ length floats
    pub words_room : 2 * length ls ≤ length words

  lengths : lengths_fit a ≡ true → (length ls ≡ cells g) × (length vs ≡ cells g) × (length ps ≡ cells g)
      × (byte_need (cells g) ≤ length bytes) × (float_need (cells g) ≤ length floats) × (word_need (cells g) ≤ length words)
  unfolding lengths_fit
  lengths e =
      let n = cells g in
      let i = both (eqb (length ls) (cells g)) _ e in
      let j = both (eqb (length vs) (cells g)) _ i.1 in
      let k = both (eqb (length ps) (cells g)) _ j.1 in
      let l = both (leb (byte_need (cells g)) (length bytes)) _ k.1 in
      let m = both (leb (float_need (cells g)) (length floats)) (leb (word_need (cells g)) (length words)) l.1 in
      (eqb-true _ _ i.0, eqb-true _ _ j.0, eqb-true _ _ k.0, leb-true _ _ l.0, leb-true _ _ m.0, leb-true _ _ m.1)

  pub known : (r : Result (Unit {0}) Fault) → verdict checks_before7 a ≡ ruling_of r → r ≡ Ok tt → Known
  unfolding checks_before7 byte_need float_need word_need
  known r e h =
      let fine : verdict checks_before7 a ≡ passed = e ∙ ap ruling_of h in
      let ok = all_pass checks_before7 a fine in
      let f = fit g (fit_sides a ok) in
      let l = lengths (no_fault (lengths_fit a) ok.1.0) in
      record {
        passes = fine;
        fit = f;
        labelled = l.0;
        valued = l.1;
        pressed = l.2;
        few = omega (arith, l.0, cells_most g f);
        bytes_room = omega (arith, l.0, l.3);
        floats_room = omega (arith, l.0, l.4);
        words_room = omega (arith, l.0, l.5);
      }

  settings_known : AllPass checks_before7 a → settings_fit t ≡ true
  unfolding checks_before7
  settings_known ok = no_fault (settings_fit t) ok.1.1.0

  tolerance_known : settings_fit t ≡ true → t.tolerance ≤ 1000000
  unfolding settings_fit
  tolerance_known e = (in_range 0 1000000 t.tolerance (both (between 0 1000000 t.tolerance) _ e).0).1

  levels_known : settings_fit t ≡ true → (1 ≤ t.levels) × (t.levels ≤ 6)
  unfolding settings_fit
  levels_known e = in_range 1 6 t.levels (both (between 1 6 t.levels) (between 0 1000 t.rounds) (both (between 0 1000000 t.tolerance) _ e).1).0

  rounds_known : settings_fit t ≡ true → t.rounds ≤ 1000
  unfolding settings_fit
  rounds_known e = (in_range 0 1000 t.rounds (both (between 1 6 t.levels) (between 0 1000 t.rounds) (both (between 0 1000000 t.tolerance) _ e).1).1).1

  module _ (z : Known) where
    ok : AllPass checks_before7 a
    ok = all_pass checks_before7 a z.passes

    -- the parts that the work is lent are of just the size needed
    pub checked : Checked g ls vs t (length ps) (length (mid_of 0 (2 * length ls + 16 - 0) bytes)) (length (mid_of 0 (8 * length ls + 64 - 0) floats)) (length (mid_of 0 (2 * length ls - 0) words))
    unfolding byte_need float_need word_need
    checked =
        let s = settings_known ok in
        let air = some_air a ok in
        record {
          fit = z.fit;
          labelled = z.labelled;
          valued = z.valued;
          pressed = z.pressed;
          levels_least = (levels_known s).0;
          levels_most = (levels_known s).1;
          tolerance = tolerance_known s;
          limit = rounds_known s;
          reached = λ e i h. let r = reaching a ok e i h in (r.0, r.2.walk);
          first_air = air.0;
          first_is_air = test_air ls air.0 air.2;
          bytes_long = length-take-le (2 * length ls + 16 - 0) bytes (omega (arith, z.bytes_room)) ∙ omega (arith, z.labelled);
          floats_long = length-take-le (8 * length ls + 64 - 0) floats (omega (arith, z.floats_room)) ∙ omega (arith, z.labelled);
          words_long = length-take-le (2 * length ls - 0) words (omega (arith, z.words_room)) ∙ omega (arith, z.labelled);
        }

    module _ (bp : List ℕ) (fp : List Float) (wp : List ℕ) (eb : length bp ≡ length (mid_of 0 (2 * length ls + 16 - 0) bytes))
        (ef : length fp ≡ length (mid_of 0 (8 * length ls + 64 - 0) floats)) (ew : length wp ≡ length (mid_of 0 (2 * length ls - 0) words)) where
      pub clear_asked : (length ls ≤ 32768) × ((byte_need (length ls) ≤ length (put_mid 0 (2 * length ls + 16 - 0) bytes bp))
          × ((float_need (length ls) ≤ length (put_mid 0 (8 * length ls + 64 - 0) floats fp)) × (word_need (length ls) ≤ length (put_mid 0 (2 * length ls - 0) words wp))))
      unfolding byte_need float_need word_need
      clear_asked = (
        z.few,
        (
          omega (arith, same_len_mid 0 (2 * length ls + 16 - 0) bytes bp eb, z.bytes_room),
          (omega (arith, same_len_mid 0 (8 * length ls + 64 - 0) floats fp ef, z.floats_room), omega (arith, same_len_mid 0 (2 * length ls - 0) words wp ew, z.words_room)),
        ),
      )

      pub solved_is : (r : Answer) (qs : List ℤ) (bs : List ℕ) (fs : List Float) (ws : List ℕ) → Worked (cast_of g ls vs) t ps r qs
          → bs ≡ cleared (byte_need (length ls)) 0 (put_mid 0 (2 * length ls + 16 - 0) bytes bp) → fs ≡ cleared (float_need (length ls)) +0 (put_mid 0 (8 * length ls + 64 - 0) floats fp)
          → ws ≡ cleared (word_need (length ls)) 0 (put_mid 0 (2 * length ls - 0) words wp) → SolveOf a r qs bs fs ws
      unfolding handed_back
      solved_is r qs bs fs ws w b f o =
          let e : solving a ≡ handed_back a r qs = past_six a z.passes ∙ w.is a refl refl refl in
          record {
            answer = sym (ap (λ (s : Solved). s.answer) e);
            pressures = sym (ap (λ (s : Solved). s.pressures) e);
            byte_room = b ∙ home 0 (byte_need (length ls)) (2 * length ls + 16) bytes bp (needed_bytes (length ls)) z.bytes_room eb ∙ ap (λ n. cleared (byte_need n) 0 bytes) z.labelled ∙ sym (ap (λ (s : Solved). s.bytes) e);
            float_room = f ∙ home +0 (float_need (length ls)) (8 * length ls + 64) floats fp (needed_floats (length ls)) z.floats_room ef ∙ ap (λ n. cleared (float_need n) +0 floats) z.labelled ∙ sym (ap (λ (s : Solved). s.floats) e);
            word_room = o ∙ home 0 (word_need (length ls)) (2 * length ls) words wp (needed_words (length ls)) z.words_room ew ∙ ap (λ n. cleared (word_need n) 0 words) z.labelled ∙ sym (ap (λ (s : Solved). s.words) e);
          }

  -- refused before 7: nothing lent is changed
  pub refused_is : (r : Result (Unit {0}) Fault) (e : Fault) (w : Answer) → verdict checks_before7 a ≡ ruling_of r → r ≡ Err e → w ≡ refusal (number_of e) (place_of e) → SolveOf a w ps bytes floats words
  unfolding untouched
  refused_is r e w v h q =
      let s : solving a ≡ untouched a (refusal (number_of e) (place_of e)) = before_seven a (number_of e) (place_of e) (v ∙ ap ruling_of h) in
      record {
        answer = q ∙ sym (ap (λ (x : Solved). x.answer) s);
        pressures = sym (ap (λ (x : Solved). x.pressures) s);
        byte_room = sym (ap (λ (x : Solved). x.bytes) s);
        float_room = sym (ap (λ (x : Solved). x.floats) s);
        word_room = sym (ap (λ (x : Solved). x.words) s);
      }
