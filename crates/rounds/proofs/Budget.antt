-- The rounds with a budget: what is left to do after so many of them, and how they end. Assumes nothing.
use Prim.Native.Nat.{ℕ, zero, suc, ◌+◌, ◌-◌, ◌*◌, ◌≤◌, ◌<◌}
use mathlib.Core.Path.{◌≡◌, refl, sym, ap, ap₂, ◌∙◌}
use mathlib.Core.Bool.{Bool, true, false, cond}
use mathlib.Core.List.{List, ◌++◌}
use native.Mathlib.Omega.{arith}
use native.Mathlib.Numerals.{add-one}
use lib.ListN.{length, take, drop, length-drop}
use lib.Seq.{take_at, drop_at, drop-drop, length-take-le}
use lib.IntN.{ℤ}
use lib.Ieee.{Float}
use Rattle.laws.specs.Binary64.{◌⊕◌, ◌⊖◌, ◌⊗◌, +0}
use Rattle.method.specs.declared.Sides.{Sides}
use Rattle.method.specs.declared.Settings.{Settings}
use Rattle.method.specs.declared.Scalars.{Scalars}
use Rattle.std.specs.Prelude.{Option, Some, None, Result, Ok, Err}
use Rattle.method.specs.Cast.{Cast, cells, worst}
use Rattle.answers.specs.declared.Passed.{Passed}
use Rattle.answers.specs.declared.Halt.{Halt}
use Rattle.answers.specs.declared.Halt.TheVariants.{LimitReached, Stalled}
use Rattle.answers.specs.Ends.{end_of, number_of_end, rounds_of_end}
use Rattle.method.specs.Transfers.{value, in_air}
use Rattle.method.specs.Cycle.{applied, zeros}
use Rattle.method.specs.Ticks.{passes, rounded}
use Rattle.method.specs.Rounds.{State, Turn, stalled, turned, End, solved, failed, step, scalars, moved, round, right_side, pass, fail, run, start}
use Rattle.theory.proofs.Quiet.{quiet_zeros, quiet_right}
use Rattle.smooth.proofs.After.{in_air_length, zeros_length}
use Rattle.rounds.specs.declared.Plan.{Plan}
use Rattle.acceptance.specs.Trial.{tested}
use Rattle.cg_fields.specs.Fields.{Held, x_of, p_of, z_of, r_of}
use Rattle.rounds.specs.Rounds.{cast_of, Calm, state_of, z_new, rho_new, beta_new, p_new, scalars_new, below, Scaled, Advanced, Ready, RunOf, EndOf}
use Rattle.rounds.proofs.Turns.{turns, held, air_same, air_value}

-- ---- a round, piece by piece
module _ (g : Sides) (ls : List ℕ) (low : ℕ) (st : State) where
  round_is : round g ls low st ≡ moved g ls low st (p_new g ls low st) (rho_new g ls low st) (step (scalars_new g ls low st))
  unfolding round z_new rho_new beta_new p_new scalars_new
  round_is = refl

module _ (g : Sides) (ls : List ℕ) (low done : ℕ) (rho : Float) (e k : List Float) (q : Scalars) (c : Scaled g ls low done rho e q k) (w : Result Float Float) (u : w ≡ step q) where
  abbrev here : State
  here = state_of (cells g) done rho e

  abbrev p_next : List Float
  p_next = p_new g ls low (state_of (cells g) done rho e)

  abbrev rho_next : Float
  rho_next = rho_new g ls low (state_of (cells g) done rho e)

  step_is : round g ls low here ≡ moved g ls low here p_next rho_next w
  step_is = round_is g ls low here ∙ ap (moved g ls low here p_next rho_next) (ap step (sym c.is) ∙ sym u)

  pub round_stalls : (a : Float) → w ≡ Err a → round g ls low here ≡ stalled
  unfolding moved
  round_stalls a h = step_is ∙ ap (moved g ls low here p_next rho_next) h

  x_is : (alpha : Float) (s : List Float) → Advanced g ls alpha k s → in_air g ls (λ b. value (x_of (cells g) e) b ⊕ alpha ⊗ value p_next b) ≡ x_of (cells g) s
  x_is alpha s a = sym (a.x ∙ ap₂ (λ i j. in_air g ls (λ b. value i b ⊕ alpha ⊗ value j b)) c.x c.p)

  r_is : (alpha : Float) (s : List Float) → Advanced g ls alpha k s → in_air g ls (λ b. value (r_of (cells g) e) b ⊖ alpha ⊗ applied g ls p_next b) ≡ r_of (cells g) s
  r_is alpha s a = sym
      (a.r ∙ ap₂ (λ i j. in_air g ls (λ b. value i b ⊖ alpha ⊗ value j b)) c.r c.t
      ∙ air_same g ls _ _ (λ b l m. ap (λ v. value (r_of (cells g) e) b ⊖ alpha ⊗ v) (air_value g ls (applied g ls p_next) b l m)))

  rho_is : rho_next ≡ q.rho
  unfolding scalars_new scalars
  rho_is = sym (ap (λ (j : Scalars). j.rho) c.is)

  pub round_goes : (alpha : Float) (s : List Float) → w ≡ Ok alpha → Advanced g ls alpha k s → round g ls low here ≡ turned (state_of (cells g) (suc done) q.rho s)
  unfolding moved
  round_goes alpha s h a =
      let p-is : p_next ≡ p_of (cells g) s = sym (a.p ∙ c.p) in
      step_is ∙ ap (moved g ls low here p_next rho_next) h
      ∙ ap₂ (λ x r. turned (record { rounds = suc done; x = x; r = r; p = p_next; rho = rho_next })) (x_is alpha s a) (r_is alpha s a)
      ∙ ap₂ (λ p o. turned (record { rounds = suc done; x = x_of (cells g) s; r = r_of (cells g) s; p = p; rho = o })) p-is rho_is

-- ---- the test
passed_is : (b : Bool) (v w : ℕ) → cond b (Some v) None ≡ Some w → (b ≡ true) × (v ≡ w)
passed_is true v w h = (refl, cc)
passed_is false v w h = cc

failed_is : (b : Bool) (v : ℕ) → cond b (Some v) None ≡ None → b ≡ false
failed_is true v h = cc
failed_is false v h = refl

-- ---- what is left to do
module _ (g : Sides) (ls : List ℕ) (vs : List ℤ) (t : Settings) where
  abbrev k : Cast
  k = cast_of g ls vs

  abbrev from : ℕ → State → End
  from n st = run (cast_of g ls vs) t n st

  run_passes : (n : ℕ) (st : State) → passes k t st.x ≡ true → from n st ≡ pass k t st
  unfolding run
  run_passes zero st h = ap (λ b. elim b [ true ↦ pass k t st | false ↦ fail k t 8 st ]) h
  run_passes (suc n) st h =
      ap (λ b. elim b [ true ↦ pass k t st | false ↦ elim (round g ls (t.levels - 1) st) [ stalled ↦ fail k t 9 st | turned next ↦ from n next ] ]) h

  run_ends : (st : State) → passes k t st.x ≡ false → from zero st ≡ fail k t 8 st
  unfolding run
  run_ends st h = ap (λ b. elim b [ true ↦ pass k t st | false ↦ fail k t 8 st ]) h

  -- after a test that fails, a round
  after : ℕ → State → Turn → End
  after n st u = elim u [ stalled ↦ fail k t 9 st | turned next ↦ from n next ]

  run_more : (n : ℕ) (st : State) (u : Turn) → passes k t st.x ≡ false → round g ls (t.levels - 1) st ≡ u → from (suc n) st ≡ after n st u
  unfolding run after
  run_more n st u h q = ap₂ (λ b v. elim b [ true ↦ pass k t st | false ↦ elim v [ stalled ↦ fail k t 9 st | turned next ↦ from n next ] ]) h q

  -- the test, as the code has it
  module _ (v : Option ℕ) (m : List Float) (e : v ≡ tested k t (x_of (cells g) m)) where
    pass_here : (w : ℕ) → v ≡ Some w → (passes k t (x_of (cells g) m) ≡ true) × (worst k (rounded k (x_of (cells g) m)) ≡ w)
    unfolding tested
    pass_here w q = passed_is _ _ w (sym e ∙ q)

    fail_here : v ≡ None → passes k t (x_of (cells g) m) ≡ false
    unfolding tested
    fail_here q = failed_is _ _ (sym e ∙ q)

  module _ (e : List Float) where
    -- the rounds that began at room e, after some of them, at room m
    pub record Left (done : ℕ) (rho : Float) (m : List Float) : Type 0 where
      pub is : from (t.rounds - done) (state_of (cells g) done rho m) ≡ from t.rounds (state_of (cells g) 0 +0 e)

    pub left_none : Left 0 +0 e
    left_none = let none : t.rounds - 0 ≡ t.rounds = omega arith in record { is = ap (λ n. from n (state_of (cells g) 0 +0 e)) none }

    module _ (done : ℕ) (rho : Float) (m : List Float) (l : Left done rho m) (v : Option ℕ) (tv : v ≡ tested k t (x_of (cells g) m)) where
      pub left_pass : (w : ℕ) (r : Result Passed Halt) → v ≡ Some w → r ≡ Ok (record { rounds = done; worst = w }) → RunOf g ls vs t e r m
      unfolding pass end_of
      left_pass w r q a =
          let y = pass_here v m tv w q in
          record { is = sym l.is ∙ run_passes (t.rounds - done) (state_of (cells g) done rho m) y.0 ∙ rw (y.1, a) refl }

      pub left_end : (r : Result Passed Halt) → t.rounds ≤ done → done ≤ t.rounds → v ≡ None → r ≡ Err (LimitReached t.rounds) → RunOf g ls vs t e r m
      unfolding fail end_of
      left_end r h i q a =
          let none : t.rounds - done ≡ 0 = omega arith in
          let all : done ≡ t.rounds = omega arith in
          record { is = sym l.is ∙ ap (λ n. from n (state_of (cells g) done rho m)) none ∙ run_ends (state_of (cells g) done rho m) (fail_here v m tv q) ∙ rw (all, a) refl }

      pub left_last : (w : ℕ) (r : Result Passed Halt) → t.rounds ≤ done → done ≤ t.rounds → v ≡ Some w → r ≡ Ok (record { rounds = t.rounds; worst = w }) → RunOf g ls vs t e r m
      left_last w r h i q a = let all : done ≡ t.rounds = omega arith in left_pass w r q (a ∙ ap (λ n. Ok (record { rounds = n; worst = w })) (sym all))

      module _ (plan : Plan) (bytes words : List ℕ) (room : ℕ) (z : Ready g ls vs t plan bytes words room) (h : done < t.rounds) (q : v ≡ None)
          (s : List Float) (o : Scalars) (c : Scaled g ls (below plan) done rho m o s) (w : Result Float Float) (sw : w ≡ step o) where
        some_left : t.rounds - done ≡ suc (t.rounds - (done + 1))
        some_left = omega arith

        level_count : below plan ≡ t.levels - 1
        level_count = ap (λ n. n - 1) z.levels

        left_after : (u : Turn) → round g ls (below plan) (state_of (cells g) done rho m) ≡ u
            → from t.rounds (state_of (cells g) 0 +0 e) ≡ after (t.rounds - (done + 1)) (state_of (cells g) done rho m) u
        left_after u y =
            sym l.is ∙ ap (λ n. from n (state_of (cells g) done rho m)) some_left
            ∙ run_more (t.rounds - (done + 1)) (state_of (cells g) done rho m) u (fail_here v m tv q) (ap (λ n. round g ls n (state_of (cells g) done rho m)) (sym level_count) ∙ y)

        pub left_stall : (a : Float) (r : Result Passed Halt) → w ≡ Err a → r ≡ Err (Stalled done) → RunOf g ls vs t e r s
        unfolding after fail end_of
        left_stall a r y b = record { is = left_after stalled (round_stalls g ls (below plan) done rho m s o c w sw a y) ∙ rw b refl }

        pub left_more : (alpha : Float) (x : List Float) → w ≡ Ok alpha → Advanced g ls alpha s x → Left (done + 1) o.rho x
        unfolding after
        left_more alpha x y b = record {
          is = ap (λ n. from (t.rounds - (done + 1)) (state_of (cells g) n o.rho x)) (add-one done)
              ∙ sym (left_after (turned (state_of (cells g) (suc done) o.rho x)) (round_goes g ls (below plan) done rho m s o c w sw alpha x y b));
        }

-- ---- the start
module _ {g : Sides} {ls : List ℕ} {vs : List ℤ} {t : Settings} {plan : Plan} {bytes words : List ℕ} {r : ℕ} (z : Ready g ls vs t plan bytes words r) where
  pub held_ready : (e : List Float) → length e ≡ r → Held g ls e
  held_ready e q = held z.planned e q

  pub same_ready : (m : ℕ) → m ≡ r → Ready g ls vs t plan bytes words m
  same_ready m q = rw q z

module _ (g : Sides) (ls : List ℕ) (vs : List ℤ) (e m : List Float) (h : Held g ls e)
    (q : m ≡ zeros g ++ (zeros g ++ (z_of (cells g) e ++ (right_side (cast_of g ls vs) ++ drop (4 * cells g) e)))) where
  z_long : length (z_of (cells g) e) ≡ cells g
  z_long = length-take-le (cells g) (drop (2 * cells g) e) (omega (arith, length-drop (2 * cells g) e, h.roomy))

  r_long : length (right_side (cast_of g ls vs)) ≡ cells g
  unfolding right_side
  r_long = in_air_length g ls _

  abbrev tail : List Float
  tail = right_side (cast_of g ls vs) ++ drop (4 * cells g) e

  after_x : drop (cells g) m ≡ zeros g ++ (z_of (cells g) e ++ tail)
  after_x = ap (drop (cells g)) q ∙ drop_at (zeros g) (zeros g ++ (z_of (cells g) e ++ tail)) (cells g) (zeros_length g)

  after_p : drop (2 * cells g) m ≡ z_of (cells g) e ++ tail
  after_p =
      let two : cells g + cells g ≡ 2 * cells g = omega arith in
      sym (drop-drop (cells g) (cells g) m ∙ ap (λ j. drop j m) two) ∙ ap (drop (cells g)) after_x ∙ drop_at (zeros g) (z_of (cells g) e ++ tail) (cells g) (zeros_length g)

  after_z : drop (3 * cells g) m ≡ tail
  after_z =
      let three : 2 * cells g + cells g ≡ 3 * cells g = omega arith in
      sym (drop-drop (cells g) (2 * cells g) m ∙ ap (λ j. drop j m) three) ∙ ap (drop (cells g)) after_p ∙ drop_at (z_of (cells g) e) tail (cells g) z_long

  start_is : state_of (cells g) 0 +0 m ≡ start (cast_of g ls vs)
  unfolding start
  start_is =
      let x-none : x_of (cells g) m ≡ zeros g = ap (take (cells g)) q ∙ take_at (zeros g) (zeros g ++ (z_of (cells g) e ++ tail)) (cells g) (zeros_length g) in
      let p-none : p_of (cells g) m ≡ zeros g = ap (take (cells g)) after_x ∙ take_at (zeros g) (z_of (cells g) e ++ tail) (cells g) (zeros_length g) in
      let r-new : r_of (cells g) m ≡ right_side (cast_of g ls vs) = ap (take (cells g)) after_z ∙ take_at (right_side (cast_of g ls vs)) (drop (4 * cells g) e) (cells g) r_long in
      rw (x-none, p-none, r-new) refl

  pub start_calm : Calm g ls m
  unfolding right_side
  start_calm =
      let x-none : x_of (cells g) m ≡ zeros g = ap (take (cells g)) q ∙ take_at (zeros g) (zeros g ++ (z_of (cells g) e ++ tail)) (cells g) (zeros_length g) in
      let p-none : p_of (cells g) m ≡ zeros g = ap (take (cells g)) after_x ∙ take_at (zeros g) (z_of (cells g) e ++ tail) (cells g) (zeros_length g) in
      let r-new : r_of (cells g) m ≡ right_side (cast_of g ls vs) = ap (take (cells g)) after_z ∙ take_at (right_side (cast_of g ls vs)) (drop (4 * cells g) e) (cells g) r_long in
      record { x = rw x-none quiet_zeros; p = rw p-none quiet_zeros; r = rw r-new (quiet_right (cast_of g ls vs)) }

  pub end_is : (t : Settings) (a : Result Passed Halt) (s : List Float) → RunOf g ls vs t m a s → EndOf g ls vs t a s
  end_is t a s y = record { is = ap (run (cast_of g ls vs) t t.rounds) (sym start_is) ∙ y.is }

pub ruleset budget = (turns, start_calm, left_none, left_pass, left_end, left_last, left_stall, left_more, held_ready, same_ready, end_is)

-- ---- THE PROMISE IS ONE RESULT: how the rounds ended, and the pressures where they are accepted
not_both : {n w m o : ℕ} {ps : List ℤ} → solved n w ps ≡ failed m o → ⊥
not_both h = let z : ◌≡◌ {A = ℕ} 0 1 = cc in omega arith

same_ends : (m n : Halt) → number_of_end m ≡ number_of_end n → rounds_of_end m ≡ rounds_of_end n → m ≡ n
same_ends (LimitReached r) (LimitReached s) e f = ap LimitReached f
same_ends (Stalled r) (Stalled s) e f = ap Stalled f
same_ends (LimitReached r) (Stalled s) e f = absurd (omega (arith, e))
same_ends (Stalled r) (LimitReached s) e f = absurd (omega (arith, e))

one_by : (a b : Result Passed Halt) (ps qs : List ℤ) → end_of a ps ≡ end_of b qs → (a ≡ b) × ((p : Passed) → a ≡ Ok p → ps ≡ qs)
unfolding end_of
one_by (Ok p) (Ok q) ps qs h =
    let r : p.rounds ≡ q.rounds = cc in
    let w : p.worst ≡ q.worst = cc in
    let same : ◌≡◌ {A = Result Passed Halt} (Ok p) (Ok q) = ap₂ (λ (n m : ℕ). Ok (record { rounds = n; worst = m })) r w in
    (same, λ i e. cc)
one_by (Ok p) (Err m) ps qs h = absurd (not_both h)
one_by (Err m) (Ok p) ps qs h = absurd (not_both (sym h))
one_by (Err m) (Err n) ps qs h =
    let k : number_of_end m ≡ number_of_end n = cc in
    let r : rounds_of_end m ≡ rounds_of_end n = cc in
    let same : ◌≡◌ {A = Result Passed Halt} (Err m) (Err n) = ap Err (same_ends m n k r) in
    (same, λ i e. cc)

pub end_one : (g : Sides) (ls : List ℕ) (vs : List ℤ) (t : Settings) (a b : Result Passed Halt) (s u : List Float) → EndOf g ls vs t a s → EndOf g ls vs t b u
    → (a ≡ b) × ((p : Passed) → a ≡ Ok p → rounded (cast_of g ls vs) (x_of (cells g) s) ≡ rounded (cast_of g ls vs) (x_of (cells g) u))
end_one g ls vs t a b s u p q = one_by a b _ _ (sym p.is ∙ q.is)
