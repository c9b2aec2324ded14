-- What an accepted answer is, and what answer 7 is, of the very result of `method`'s solving. Assumes nothing.
use mathlib.Core.Path.{◌≡◌, refl, sym, ap, subst, ◌∙◌}
use mathlib.Core.Bool.{Bool, true, false, not, ◌&&◌, true≢false}
use Prim.Native.Nat.{ℕ, ◌<◌}
use native.Mathlib.Nat.{le_trans, le_of_eq}
use native.Mathlib.Omega.{arith}
use lib.Dec.{T, T_not, leb, eqb, eqb→eq}
use lib.ListN.{length, get_or}
use lib.IntN.{nat_abs}
use borrow.Author.Tests.{eq-eqb}
use Rattle.laws.proofs.Bools.{and_l, and_r, and_in, so}
use Rattle.std.specs.Prelude.{Option, None, Some}
use Rattle.method.specs.Cast.{is_air, judged, worst, interior, sides_fit}
use Rattle.method.specs.Walks.{depth, is_at, steps_of, walk, sealed}
use Rattle.method.specs.Answers.{accepted, refusal, unfinished}
use Rattle.method.specs.Rooms.{byte_need, float_need, word_need}
use Rattle.method.specs.Ticks.{rounded, passes}
use Rattle.method.specs.Rounds.{State, pass, fail}
use Rattle.method.specs.Solving.{Asked, size, Solved, lengths_fit, checks_before7, untouched, handed_back, answer_of, solving}
use Rattle.theory.specs.Answered.{label, left, Away, Accepted, CutOff}
use Rattle.theory.proofs.Verdicts.{AllPass, no_fault, no_fault'}
use Rattle.theory.proofs.Reach.{air_test, test_air, in_box_lem, found_cases, never, same_steps, least_walk, no_walk}
use Rattle.theory.proofs.Counting.{some_counted}
use Rattle.theory.proofs.Greatest.{greatest_all, greatest_attained}
use Rattle.theory.proofs.Firsts.{Search, found, none, search_first}
use Rattle.theory.proofs.Pressures.{length_rounded, openings_rounded, walls_rounded, worst_passes, air_rounded}
use Rattle.theory.proofs.Worst.{where_worst}
use Rattle.theory.proofs.Outcome.{Outcome, early, cut_off, unended, right, outcome}

-- ---- what the checks before 7 say
module _ (a : Asked) (ok : AllPass checks_before7 a) where
  pub fit_sides : sides_fit a.cast.sides ≡ true
  unfolding checks_before7
  fit_sides = no_fault (sides_fit a.cast.sides) ok.0

  pub sized : length a.cast.labels ≡ size a
  unfolding checks_before7 lengths_fit
  sized = eqb→eq (length a.cast.labels) (size a) (and_l (eqb (length a.cast.labels) (size a))
      (eqb (length a.cast.values) (size a) && (eqb (length a.pressures) (size a) && (leb (byte_need (size a)) (length a.bytes)
      && (leb (float_need (size a)) (length a.floats) && leb (word_need (size a)) (length a.words)))))
      (so (no_fault (lengths_fit a) ok.1.0)))

  pub some_air : (c : ℕ) × (c < size a) × T (is_air a.cast.labels c)
  unfolding checks_before7 interior judged
  some_air = some_counted (is_air a.cast.labels) (size a) (λ e. clash (no_fault' (eqb (interior a.cast.sides a.cast.labels) 0) ok.1.1.1.1.1.0) (eq-eqb (interior a.cast.sides a.cast.labels) 0 e))
    where
      clash : {b : Bool} → b ≡ false → b ≡ true → ⊥
      clash p q = true≢false (sym q ∙ p)

-- ---- walks
not_found : (f : Option ℕ) → T (not (is_at f)) → f ≡ None
unfolding is_at
not_found None t = refl
not_found (Some d) t = absurd t

module _ (a : Asked) (ok : AllPass checks_before7 a) where
  away : (c d : ℕ) → label a c ≡ 0 → get_or (walk a.cast.sides a.cast.labels) c None ≡ Some d → Away a c d
  away c d e h = let r = least_walk a.cast.sides a.cast.labels (sized a ok) c d e h in record { walk = r.0; least = r.1 }

  cut : ℕ → Bool
  cut c = is_air a.cast.labels c && not (is_at (get_or (walk a.cast.sides a.cast.labels) c None))

  -- an air cell that is not cut off has a least walk
  has_walk : (c : ℕ) → label a c ≡ 0 → T (not (cut c)) → (d : ℕ) × (get_or (walk a.cast.sides a.cast.labels) c None ≡ Some d) × Away a c d
  unfolding cut is_at
  has_walk c e t = found_cases (get_or (walk a.cast.sides a.cast.labels) c None)
      (λ d h. (d, h, away c d e h))
      (λ h. absurd (T_not (is_air a.cast.labels c && not (is_at (get_or (walk a.cast.sides a.cast.labels) c None))) t
      (and_in (is_air a.cast.labels c) (not (is_at (get_or (walk a.cast.sides a.cast.labels) c None))) (air_test a.cast.labels c e) (rw h tt))))

  -- a cast past check 7 has a walk for every air cell
  pub reaching : sealed a.cast.sides a.cast.labels ≡ None → (c : ℕ) → label a c ≡ 0
      → (d : ℕ) × (get_or (walk a.cast.sides a.cast.labels) c None ≡ Some d) × Away a c d
  unfolding sealed cut
  reaching q c e = go (search_first cut (size a))
    where
      go : Search cut (size a) → (d : ℕ) × (get_or (walk a.cast.sides a.cast.labels) c None ≡ Some d) × Away a c d
      go (found p h r) = absurd (never q h)
      go (none h r) = has_walk c e (r c (in_box_lem (size a) a.cast.labels (sized a ok) c (omega arith)))

  pub cut_off_is : (place : ℕ) → sealed a.cast.sides a.cast.labels ≡ Some place → CutOff a place
  unfolding sealed cut
  cut_off_is place q = go (search_first cut (size a))
    where
      go : Search cut (size a) → CutOff a place
      go (none h r) = absurd (never h q)
      go (found p h r) = subst (CutOff a) (same_steps h q) record {
        air = test_air a.cast.labels p (and_l (is_air a.cast.labels p) (not (is_at (get_or (walk a.cast.sides a.cast.labels) p None))) r.here);
        no_walk = no_walk a.cast.sides a.cast.labels (sized a ok) p
            (test_air a.cast.labels p (and_l (is_air a.cast.labels p) (not (is_at (get_or (walk a.cast.sides a.cast.labels) p None))) r.here))
            (not_found (get_or (walk a.cast.sides a.cast.labels) p None) (and_r (is_air a.cast.labels p) (not (is_at (get_or (walk a.cast.sides a.cast.labels) p None))) r.here));
        before = λ c l e. let w = has_walk c e (r.before c l) in (w.0, w.2);
      }

-- ---- a state that passes the test
made : (a : Asked) (st : State) → passes a.cast a.settings st.x ≡ true → AllPass checks_before7 a → sealed a.cast.sides a.cast.labels ≡ None
    → Accepted a (handed_back a (answer_of a.cast (pass a.cast a.settings st)) (rounded a.cast st.x))
unfolding handed_back answer_of pass accepted worst depth judged steps_of
made a st t p q =
    let some = some_air a p in
    let size-at : ℕ → ℕ = λ c. nat_abs (left a (rounded a.cast st.x) c) in
    let steps-at : ℕ → ℕ = λ c. steps_of (get_or (walk a.cast.sides a.cast.labels) c None) in
    let top = greatest_attained (is_air a.cast.labels) size-at (size a) some.0 some.1 some.2 in
    let there = where_worst a.cast (rounded a.cast st.x) some.0 some.1 some.2 in
    let deep = greatest_attained (is_air a.cast.labels) steps-at (size a) some.0 some.1 some.2 in
    record {
      worst_all = λ c e. greatest_all (is_air a.cast.labels) size-at (size a) c (in_box_lem (size a) a.cast.labels (sized a p) c (omega arith)) (air_test a.cast.labels c e);
      worst_one = (top.0, test_air a.cast.labels top.0 top.2, top.3);
      worst_fits = worst_passes a.cast st.x (sized a p) a.settings t;
      worst_cell_is_air = there.air;
      worst_value_is_left = there.value;
      worst_size = there.size;
      worst_first = there.before;
      interior_is = refl;
      depth_all = λ c e. let w = reaching a p q c e in
          (w.0, w.2, le_trans (le_of_eq (sym (ap steps_of w.1))) (greatest_all (is_air a.cast.labels) steps-at (size a) c (in_box_lem (size a) a.cast.labels (sized a p) c (omega arith)) (air_test a.cast.labels c e)));
      depth_one = let e = test_air a.cast.labels deep.0 deep.2 in let w = reaching a p q deep.0 e in
          (deep.0, e, subst (Away a deep.0) (sym (ap steps_of w.1) ∙ deep.3) w.2);
      one_a_cell = length_rounded a.cast st.x;
      at_openings = openings_rounded a.cast st.x (sized a p);
      at_walls = walls_rounded a.cast st.x (sized a p);
      at_air = air_rounded a.cast st.x (sized a p) a.settings t;
    }

-- ---- THE THEOREMS
number : Solved → ℕ
number r = r.answer.number

-- how an answer 0 came about
pub record Came (a : Asked) : Type 0 where
  pub st : State
  pub passing : passes a.cast a.settings st.x ≡ true
  pub checked : AllPass checks_before7 a
  pub none_sealed : sealed a.cast.sides a.cast.labels ≡ None
  pub result : solving a ≡ handed_back a (answer_of a.cast (pass a.cast a.settings st)) (rounded a.cast st.x)

pub came_about : (a : Asked) → (solving a).answer.number ≡ 0 → Came a
unfolding untouched handed_back answer_of fail refusal unfinished number
came_about a z = go (outcome a)
  where
    go : Outcome a → Came a
    go (early num place l h e) = absurd (omega (arith, z, ap number e))
    go (cut_off place p q e) = absurd (omega (arith, z, ap number e))
    go (unended num st l h p q e) = absurd (omega (arith, z, ap number e))
    go (right st t p q e) = record { st = st; passing = t; checked = p; none_sealed = q; result = e }

-- what solving gives where its number is 0
pub accepted_is : (a : Asked) → (solving a).answer.number ≡ 0 → Accepted a (solving a)
accepted_is a z = let r = came_about a z in subst (Accepted a) (sym r.result) (made a r.st r.passing r.checked r.none_sealed)

-- the place of answer 7
pub answer_7_is : (a : Asked) → (solving a).answer.number ≡ 7 → CutOff a (solving a).answer.place
unfolding untouched handed_back answer_of pass fail refusal unfinished accepted number
answer_7_is a z = go (outcome a)
  where
    go : Outcome a → CutOff a (solving a).answer.place
    go (early num place l h e) = absurd (omega (arith, z, ap number e))
    go (cut_off place p q e) = subst (CutOff a) (sym (ap (λ (r : Solved). r.answer.place) e)) (cut_off_is a p place q)
    go (unended num st l h p q e) = absurd (omega (arith, z, ap number e))
    go (right st t p q e) = absurd (omega (arith, z, ap number e))
