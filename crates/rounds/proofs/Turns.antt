-- The fields in the room of a round: what each call of a round leaves of them. Assumes nothing.
use Prim.Native.Nat.{ℕ, ◌+◌, ◌-◌, ◌*◌, ◌≤◌, ◌<◌}
use mathlib.Core.Path.{◌≡◌, refl, sym, ap, ap₂, subst, ◌∙◌}
use mathlib.Core.Bool.{Bool, true, false, cond}
use mathlib.Core.List.{List, ◌++◌}
use native.Mathlib.Omega.{arith}
use borrow.Author.Rules.{rules}
use borrow.Rule.Slice.PartMut.{mid_of, put_mid}
use lib.ListN.{length, set, take, drop, length-append, length-drop, length-set}
use lib.Seq.{drop_at, length-take-le, drop-drop}
use lib.Ieee.{Float, nan}
use Rattle.laws.specs.Binary64.{◌⊕◌, ◌⊖◌, ◌⊗◌, ◌⊘◌, +0}
use Rattle.laws.proofs.Lists.{get_or_tab}
use Rattle.laws.proofs.Fill.{up_same, tab_same, part_take}
use Rattle.method.specs.declared.Sides.{Sides}
use Rattle.method.specs.declared.Settings.{Settings}
use Rattle.method.specs.Cast.{Cast, cells, is_air}
use Rattle.method.specs.Transfers.{value, in_air}
use Rattle.method.specs.Cycle.{applied, cycle}
use Rattle.method.specs.Rounds.{dot, beta_of, direction, scalars}
use Rattle.theory.specs.Levels.{sides_at, labels_at}
use Rattle.theory.specs.Quiet.{Quiet}
use Rattle.theory.specs.Sides.{Fit}
use Rattle.smooth.specs.Fields.{b_of}
use Rattle.smooth.specs.Entries.{AllRead}
use Rattle.smooth.proofs.EntryLaws.{all_read}
use Rattle.smooth.proofs.After.{in_air_length}
use Rattle.cycle.specs.Strokes.{AirList, Ended, Put}
use Rattle.cycle.specs.Rooms.{Ready, Cycled, fields_from, air_from}
use Rattle.cycle.proofs.Laws.{part_first, lent_is, home_is, end_lent}
use Rattle.cycle.proofs.Calls.{ready_first, first_air, fields_most, zero_end, zero_part}
use Rattle.rounds.specs.declared.Plan.{Plan}
use Rattle.std.specs.Prelude.{Option}
use Rattle.acceptance.specs.Trial.{tested}
use Rattle.cg_fields.specs.Entries.{Aimed}
use Rattle.cg_fields.specs.Fields.{Held, x_of, p_of, r_of, t_of}
use Rattle.rounds.specs.Rounds.{state_of, z_new, rho_new, beta_new, p_new, scalars_new, below, plan_sides, plan_labels, Prepared, Planned, Calm, Drawn, Rho, Applied, Sigma, Scaled, Advanced}
use Rattle.rounds.proofs.Parts.{put_length, put_here, put_before, put_after}

-- ---- what is read in air alone
cond_same : {A : Type 0} (b : Bool) (x y z : A) → (b ≡ true → x ≡ y) → cond b x z ≡ cond b y z
cond_same true x y z h = h refl
cond_same false x y z h = refl

module _ (g : Sides) (ls : List ℕ) where
  pub air_same : (f h : ℕ → Float) → ((c : ℕ) → c < cells g → is_air ls c ≡ true → f c ≡ h c) → in_air g ls f ≡ in_air g ls h
  unfolding in_air
  air_same f h e = tab_same (cells g) _ _ (λ c l. cond_same (is_air ls c) (f c) (h c) +0 (e c l))

  pub air_value : (f : ℕ → Float) (c : ℕ) → c < cells g → is_air ls c ≡ true → value (in_air g ls f) c ≡ f c
  unfolding in_air
  air_value f c l h = get_or_tab (cells g) (λ j. cond (is_air ls j) (f j) +0) c nan l ∙ ap (λ b. cond b (f c) +0) h

  pub dot_same : (f h k : ℕ → Float) → ((c : ℕ) → c < cells g → is_air ls c ≡ true → h c ≡ k c) → dot g ls f h ≡ dot g ls f k
  unfolding dot
  dot_same f h k e = up_same _ _ +0 (cells g) (λ c a l. cond_same (is_air ls c) (a ⊕ f c ⊗ h c) (a ⊕ f c ⊗ k c) a (λ q. ap (λ w. a ⊕ f c ⊗ w) (e c l q)))

-- ---- what the calls ask
module _ {plan : Plan} {bytes words : List ℕ} {g : Sides} {ls : List ℕ} {r : ℕ} (z : Planned plan bytes words g ls r) where
  pub fit_planned : Fit g
  fit_planned = subst Fit z.sides z.prepared.levels.fit

  pub held : (e : List Float) → length e ≡ r → Held g ls e
  held e q = record { sides = fit_planned; labelled = z.labelled; roomy = omega (arith, z.prepared.roomy) }

  pub held_after : (e m : List Float) → length e ≡ r → length m ≡ length e → Held g ls m
  held_after e m q k = held m (k ∙ q)

  pub same_planned : (m : ℕ) → m ≡ r → Planned plan bytes words g ls m
  same_planned m q = rw q z

  pub prepared_here : (n : ℕ) → n ≡ length ls → Prepared plan bytes words n r
  prepared_here n q = let k : n ≡ cells g = q ∙ z.labelled in rw k z.prepared

-- ---- products
pub inner_is : (g : Sides) (ls : List ℕ) (e : List Float) (a b : ℕ) (v : Float) → length ls ≡ cells g
    → v ≡ dot g ls (value (take (a + length ls - a) (drop a e))) (value (take (b + length ls - b) (drop b e)))
    → v ≡ dot g ls (value (take (cells g) (drop a e))) (value (take (cells g) (drop b e)))
inner_is g ls e a b v h q =
    let m : a + length ls - a ≡ cells g = omega arith in
    let k : b + length ls - b ≡ cells g = omega arith in
    q ∙ ap₂ (λ i j. dot g ls (value (take i (drop a e))) (value (take j (drop b e)))) m k

pub test_is : (g : Sides) (ls : List ℕ) (k : Cast) (t : Settings) (e : List Float) (v : Option ℕ) → length ls ≡ cells g
    → v ≡ tested k t (take (0 * length ls + length ls - 0 * length ls) (drop (0 * length ls) e)) → v ≡ tested k t (x_of (cells g) e)
test_is g ls k t e v h q =
    let m : 0 * length ls + length ls - 0 * length ls ≡ cells g = omega arith in
    let none : 0 * length ls ≡ 0 = omega arith in
    q ∙ ap₂ (λ j i. tested k t (take j (drop i e))) m none

-- ---- z, lent to the cycle with all that follows it, once the room ends in a zero
module _ (plan : Plan) (bytes words : List ℕ) (n : ℕ) (e : List Float) (z : Prepared plan bytes words n (length e)) (d : List Float) (q : d ≡ set e (length e - 1) +0) where
  same_long : length d ≡ length e
  same_long = ap length q ∙ length-set e (length e - 1) +0

  two_inside : 2 * n ≤ length d
  two_inside = omega (arith, z.roomy, same_long)

  lent : mid_of (2 * n) (length d - 2 * n) d ≡ drop (2 * n) d
  lent = lent_is (2 * n) d d two_inside

  fields_fit : 2 * n + fields_from (plan_sides plan) plan.count 0 < length e
  fields_fit = omega (arith, z.size, z.roomy, fields_most (plan_sides plan) plan.count z.levels.fit z.levels.most)

  pub cycle_ready : Ready plan.levels plan.lists plan.count 0 bytes words (length (mid_of (2 * n) (length d - 2 * n) d))
  cycle_ready = ready_first plan.levels plan.lists plan.count bytes words _ z.levels
      (omega (arith, ap length lent, length-drop (2 * n) d, same_long, fields_fit))

  pub cycle_end : Ended (fields_from (plan_sides plan) plan.count 0) (mid_of (2 * n) (length d - 2 * n) d)
  cycle_end =
      let all : Ended (2 * n + fields_from (plan_sides plan) plan.count 0) d = rw q (zero_end e (2 * n + fields_from (plan_sides plan) plan.count 0) fields_fit) in
      rw lent (end_lent (2 * n) (fields_from (plan_sides plan) plan.count 0) d all)

  part_same : (k : ℕ) → k ≤ 3 * n → take n (drop k d) ≡ take n (drop k e)
  part_same k h = ap (λ s. take n (drop k s)) q ∙ zero_part e k n (omega (arith, z.roomy))

  pub drawn_is : (c : List Float) → Cycled plan.levels bytes plan.count 0 (mid_of (2 * n) (length d - 2 * n) d) c
      → Drawn (plan_sides plan) (plan_labels plan bytes) (below plan) n e (put_mid (2 * n) (length d - 2 * n) d c)
  unfolding sides_at labels_at
  drawn_is c y =
      let home : put_mid (2 * n) (length d - 2 * n) d c ≡ take (2 * n) d ++ c = home_is (2 * n) d c two_inside in
      let y' : Put n (fields_from (plan_sides plan) plan.count 0) (cycle 0 (plan.count - 1 - 0) (plan_sides plan) (plan_labels plan bytes) (b_of n (drop (2 * n) d))) (drop (2 * n) d) c =
      rw (lent, sym z.size) at y in
      let top : length (take (2 * n) d) ≡ 2 * n = length-take-le (2 * n) d two_inside in
      let low : plan.count - 1 - 0 ≡ below plan = omega arith in
      let three : 2 * n + n ≡ 3 * n = omega arith in
      let r-at : (l : List Float) → b_of n (drop (2 * n) l) ≡ r_of n l = λ l. ap (take n) (drop-drop n (2 * n) l ∙ ap (λ j. drop j l) three) in
      let r-same : b_of n (drop (2 * n) d) ≡ r_of n e = r-at d ∙ part_same (3 * n) (omega arith) in
      let tail : drop (2 * n) (take (2 * n) d ++ c) ≡ c = drop_at (take (2 * n) d) c (2 * n) top in
      let new : Drawn (plan_sides plan) (plan_labels plan bytes) (below plan) n e (take (2 * n) d ++ c) = record {
        x = part_first (take (2 * n) d) c 0 n (omega arith) ∙ part_take 0 n (2 * n) d (omega arith) ∙ part_same 0 (omega arith);
        p = part_first (take (2 * n) d) c n n (omega arith) ∙ part_take n n (2 * n) d (omega arith) ∙ part_same n (omega arith);
        z = ap (take n) tail ∙ y'.u ∙ ap₂ (λ j b. cycle 0 j (plan_sides plan) (plan_labels plan bytes) b) low r-same;
        r = sym (r-at (take (2 * n) d ++ c)) ∙ ap (b_of n) tail ∙ y'.b ∙ r-same;
        long = omega (arith, length-append (take (2 * n) d) c, top, y'.long, length-drop (2 * n) d, same_long);
      } in
      rw home new

-- ---- rho
pub rho_is : (plan : Plan) (bytes words : List ℕ) (g : Sides) (ls : List ℕ) (e s : List Float) (rho : Float) → Planned plan bytes words g ls (length e)
    → Drawn (plan_sides plan) (plan_labels plan bytes) (below plan) (length ls) e s
    → rho ≡ dot g ls (value (take (cells g) (drop (2 * length ls) s))) (value (take (cells g) (drop (3 * length ls) s)))
    → Rho g ls (below plan) e rho s
rho_is plan bytes words g ls e s rho z d q = record { drawn = rw (z.sides, z.labels, z.labelled) at d; is = rw z.labelled at q }

-- ---- t: the list of all air, the zero at the room's end, and what the kernel leaves
module _ {plan : Plan} {bytes words : List ℕ} {g : Sides} {ls : List ℕ} (e : List Float) (z : Planned plan bytes words g ls (length e)) where
  pub air_listed : {es : List ℕ} → es ≡ air_from plan.lists 0 words → AirList g ls es
  air_listed q =
      let len : length (plan_labels plan bytes) ≡ cells (plan_sides plan) = ap length z.labels ∙ z.labelled ∙ ap cells (sym z.sides) in
      let there = first_air plan.levels plan.lists plan.count bytes words z.prepared.levels len q in
      rw (z.sides, z.labels) at there

  module _ {d : List Float} (q : d ≡ set e (length e - 1) +0) where
    zero_there : Ended (5 * cells g) d
    zero_there = rw q (zero_end e (5 * cells g) (omega (arith, z.prepared.roomy)))

    d_long : length d ≡ length e
    d_long = ap length q ∙ length-set e (length e - 1) +0

    pub zero_read : value d (length e - 1) ≡ +0
    zero_read = let last : length e - 1 ≡ length d - 1 = omega (arith, d_long) in ap (value d) last ∙ zero_there.none

    pub air_read : {es : List ℕ} → es ≡ air_from plan.lists 0 words → AllRead (length ls) g.nx (g.nx * g.ny) (length e - 1) (length d) es
    air_read {es} w =
        all_read g ls (length ls) g.nx (g.nx * g.ny) (length e - 1) (length d) es (air_listed w).entries
        (omega (arith, z.prepared.roomy, z.labelled)) (omega (arith, z.prepared.roomy, d_long))

    pub five_before : 5 * length ls ≤ length e - 1
    five_before = omega (arith, z.prepared.roomy, z.labelled)

    same_part : (k : ℕ) → k ≤ 4 * cells g → take (cells g) (drop k d) ≡ take (cells g) (drop k e)
    same_part k h = ap (λ s. take (cells g) (drop k s)) q ∙ zero_part e k (cells g) (omega (arith, z.prepared.roomy))

    pub applied_is : {s : List Float} → s ≡ take (4 * cells g) d ++ (in_air g ls (applied g ls (p_of (cells g) d)) ++ drop (5 * cells g) d) → Applied g ls e s
    applied_is {s} w =
        let n = cells g in
        let v = in_air g ls (applied g ls (p_of (cells g) d)) in
        let long : length (in_air g ls (applied g ls (p_of (cells g) d))) ≡ cells g = in_air_length g ls _ in
        let fits : 4 * cells g + cells g ≤ length d = omega (arith, z.prepared.roomy, d_long) in
        let five : 5 * cells g ≡ 4 * cells g + cells g = omega arith in
        let put : s ≡ take (4 * cells g) d ++ (in_air g ls (applied g ls (p_of (cells g) d)) ++ drop (4 * cells g + cells g) d) =
        w ∙ ap (λ j. take (4 * cells g) d ++ (in_air g ls (applied g ls (p_of (cells g) d)) ++ drop j d)) five in
        record {
          x = put_before (4 * n) n v d s long fits put 0 n (omega arith) ∙ same_part 0 (omega arith);
          p = put_before (4 * n) n v d s long fits put n n (omega arith) ∙ same_part n (omega arith);
          r = put_before (4 * n) n v d s long fits put (3 * n) n (omega arith) ∙ same_part (3 * n) (omega arith);
          t = put_here (4 * n) n v d s long fits put ∙ ap (λ p. in_air g ls (applied g ls p)) (same_part n (omega arith));
          long = put_length (4 * n) n v d s long fits put ∙ d_long;
        }

-- ---- sigma
pub sigma_is : (g : Sides) (ls : List ℕ) (e s : List Float) (sigma : Float) → length ls ≡ cells g → Applied g ls e s
    → sigma ≡ dot g ls (value (take (cells g) (drop (length ls) s))) (value (take (cells g) (drop (4 * length ls) s))) → Sigma g ls e sigma s
sigma_is g ls e s sigma len a w =
    let w' : sigma ≡ dot g ls (value (p_of (cells g) s)) (value (t_of (cells g) s)) = rw len at w in
    record {
      x = a.x;
      p = a.p;
      r = a.r;
      t = a.t;
      is = w' ∙ ap₂ (λ i j. dot g ls (value i) (value j)) a.p a.t ∙ dot_same g ls _ _ _ (air_value g ls (applied g ls (p_of (cells g) e)));
      long = a.long;
    }

-- ---- the scalars of a round
module _ (plan : Plan) (bytes words : List ℕ) (g : Sides) (ls : List ℕ) (done : ℕ) (old rho beta sigma : Float) (e m k s : List Float) (z : Planned plan bytes words g ls (length e)) where
  pub scaled_is : Rho g ls (below plan) e rho m → beta ≡ beta_of done rho old → Aimed g ls done beta m k
      → Sigma g ls k sigma s → Scaled g ls (below plan) done old e (record { rho = rho; sigma = sigma; alpha = rho ⊘ sigma; beta = beta }) s
  unfolding z_new rho_new beta_new p_new scalars_new scalars
  scaled_is a b c f =
      let rho-new : rho ≡ rho_new g ls (below plan) (state_of (cells g) done old e) = a.is ∙ ap₂ (λ i j. dot g ls (value i) (value j)) a.drawn.z a.drawn.r in
      let beta-new : beta ≡ beta_new g ls (below plan) (state_of (cells g) done old e) = b ∙ ap (λ i. beta_of done i old) rho-new in
      let p-new : p_of (cells g) k ≡ p_new g ls (below plan) (state_of (cells g) done old e) =
      c.p ∙ ap₂ (λ i j. in_air g ls (λ c. direction done i (value j c) (value (p_of (cells g) m) c))) beta-new a.drawn.z
      ∙ ap (λ j. in_air g ls (λ c. direction done (beta_new g ls (below plan) (state_of (cells g) done old e)) (value (z_new g ls (below plan) (state_of (cells g) done old e)) c) (value j c))) a.drawn.p in
      let sigma-new : sigma ≡ (scalars_new g ls (below plan) (state_of (cells g) done old e)).sigma = f.is ∙ ap (λ j. dot g ls (value j) (applied g ls j)) p-new in
      record {
        x = f.x ∙ c.x ∙ a.drawn.x;
        p = f.p ∙ p-new;
        r = f.r ∙ c.r ∙ a.drawn.r;
        t = f.t ∙ ap (λ j. in_air g ls (applied g ls j)) p-new;
        is = rw (rho-new, beta-new, sigma-new) refl;
        long = f.long ∙ c.long ∙ a.drawn.long;
      }

-- ---- x and r
module _ (g : Sides) (ls : List ℕ) (alpha : Float) (e m s : List Float) (h : Held g ls e) where
  pub advanced_is : m ≡ in_air g ls (λ c. value (x_of (cells g) e) c ⊕ alpha ⊗ value (p_of (cells g) e) c) ++ drop (cells g) e
      → s ≡ take (3 * cells g) m ++ (in_air g ls (λ c. value (r_of (cells g) m) c ⊖ alpha ⊗ value (t_of (cells g) m) c) ++ drop (4 * cells g) m)
      → Advanced g ls alpha e s
  advanced_is a b =
      let n = cells g in
      let v = in_air g ls (λ c. value (x_of (cells g) e) c ⊕ alpha ⊗ value (p_of (cells g) e) c) in
      let w = in_air g ls (λ c. value (r_of (cells g) m) c ⊖ alpha ⊗ value (t_of (cells g) m) c) in
      let v-long : length (in_air g ls (λ c. value (x_of (cells g) e) c ⊕ alpha ⊗ value (p_of (cells g) e) c)) ≡ cells g = in_air_length g ls _ in
      let w_long : length (in_air g ls (λ c. value (r_of (cells g) m) c ⊖ alpha ⊗ value (t_of (cells g) m) c)) ≡ cells g = in_air_length g ls _ in
      let none : cells g ≡ 0 + cells g = omega arith in
      let a' : m ≡ take 0 e ++ (in_air g ls (λ c. value (x_of (cells g) e) c ⊕ alpha ⊗ value (p_of (cells g) e) c) ++ drop (0 + cells g) e) = a ∙ ap (λ j. v ++ drop j e) none in
      let v-fits : 0 + cells g ≤ length e = omega (arith, h.roomy) in
      let m_long : length m ≡ length e = put_length 0 n v e m v-long v-fits a' in
      let four : 4 * cells g ≡ 3 * cells g + cells g = omega arith in
      let b' : s ≡ take (3 * cells g) m ++ (in_air g ls (λ c. value (r_of (cells g) m) c ⊖ alpha ⊗ value (t_of (cells g) m) c) ++ drop (3 * cells g + cells g) m) =
      b ∙ ap (λ j. take (3 * n) m ++ (w ++ drop j m)) four in
      let w_fits : 3 * cells g + cells g ≤ length m = omega (arith, h.roomy) in
      let late : (k : ℕ) → cells g ≤ k → drop k m ≡ drop k e = λ k l. put_after 0 n v e m v-long v-fits a' k (omega arith) in
      record {
        x = put_before (3 * n) n w m s w_long w_fits b' 0 n (omega arith) ∙ put_here 0 n v e m v-long v-fits a';
        p = put_before (3 * n) n w m s w_long w_fits b' n n (omega arith) ∙ ap (take n) (late n (omega arith));
        r = put_here (3 * n) n w m s w_long w_fits b'
            ∙ ap₂ (λ i j. in_air g ls (λ c. value (take (cells g) i) c ⊖ alpha ⊗ value (take (cells g) j) c)) (late (3 * n) (omega arith)) (late (4 * n) (omega arith));
        long = put_length (3 * n) n w m s w_long w_fits b' ∙ m_long;
      }

-- the same from what the kernels promise of every cast whose fields are zero off air
module _ (g : Sides) (ls : List ℕ) (alpha : Float) (e m s : List Float) (h : Held g ls e) (q : Calm g ls e) (t : Quiet g ls (t_of (cells g) e)) where
  pub advanced_done : ((k : Sides) (ms : List ℕ) → length ls ≡ cells k → Quiet k ms (x_of (cells k) e) → Quiet k ms (p_of (cells k) e)
      → m ≡ in_air k ms (λ c. value (x_of (cells k) e) c ⊕ alpha ⊗ value (p_of (cells k) e) c) ++ drop (cells k) e)
      → ((k : Sides) (ms : List ℕ) → length ls ≡ cells k → Quiet k ms (r_of (cells k) m) → Quiet k ms (t_of (cells k) m)
      → s ≡ take (3 * cells k) m ++ (in_air k ms (λ c. value (r_of (cells k) m) c ⊖ alpha ⊗ value (t_of (cells k) m) c) ++ drop (4 * cells k) m))
      → Advanced g ls alpha e s
  advanced_done f w =
      let n = cells g in
      let v = in_air g ls (λ c. value (x_of (cells g) e) c ⊕ alpha ⊗ value (p_of (cells g) e) c) in
      let a : m ≡ in_air g ls (λ c. value (x_of (cells g) e) c ⊕ alpha ⊗ value (p_of (cells g) e) c) ++ drop (cells g) e = f g ls h.labelled q.x q.p in
      let none : cells g ≡ 0 + cells g = omega arith in
      let a' : m ≡ take 0 e ++ (in_air g ls (λ c. value (x_of (cells g) e) c ⊕ alpha ⊗ value (p_of (cells g) e) c) ++ drop (0 + cells g) e) = a ∙ ap (λ j. v ++ drop j e) none in
      let long : length (in_air g ls (λ c. value (x_of (cells g) e) c ⊕ alpha ⊗ value (p_of (cells g) e) c)) ≡ cells g = in_air_length g ls _ in
      let fits : 0 + cells g ≤ length e = omega (arith, h.roomy) in
      let late : (k : ℕ) → cells g ≤ k → drop k m ≡ drop k e = λ k l. put_after 0 n v e m long fits a' k (omega arith) in
      let r-same : r_of (cells g) m ≡ r_of (cells g) e = ap (take n) (late (3 * n) (omega arith)) in
      let t_same : t_of (cells g) m ≡ t_of (cells g) e = ap (take n) (late (4 * n) (omega arith)) in
      advanced_is g ls alpha e m s h a (w g ls h.labelled (rw r-same q.r) (rw t_same t))

pub ruleset turns = (rules, fit_planned, held, held_after, same_planned, prepared_here, inner_is, test_is, cycle_ready, cycle_end, drawn_is, rho_is, sigma_is, scaled_is, advanced_is)
