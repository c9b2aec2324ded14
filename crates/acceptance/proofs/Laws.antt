-- Laws of the test, cell by cell: a cell's pressure is that of the rounded ticks; refused ticks; the verdict. Assumes
-- nothing.
use mathlib.Core.Path.{◌≡◌, refl, sym, ap, ap₂, ◌∙◌}
use mathlib.Core.Logic.{⊎_elim}
use mathlib.Core.Bool.{Bool, true, false, not, ◌&&◌, ◌||◌, cond}
use mathlib.Core.List.{List, map, ◌∷◌, ◌++◌, append-nil}
use Prim.Native.Nat.{ℕ, zero, suc, max, ◌+◌, ◌^◌, ◌≤◌, ◌<◌}
use native.Mathlib.Nat.{eq-or-lt_of_le, le_of_suc-le-suc}
use native.Mathlib.Omega.{arith}
use borrow.Author.Tests.{eq-eqb, ne_eqb, le-leb, lt-leb}
use lib.Dec.{eqb, leb}
use lib.IntN.{ℤ, pos, nat_abs}
use lib.Ieee.{Float}
use lib.ListN.{length, get_or, set, drop_of_length-le, get_or-eq_default}
use mir.Syntax.{w32, w64}
use mir.Val.{SFits, to_z, of_z}
use mir.Facts.{to_z-of_z}
use Rattle.laws.specs.Loops.{up}
use Rattle.laws.specs.Lists.{tab, any}
use Rattle.laws.specs.Whole.{◌+ᶻ◌}
use Rattle.laws.proofs.Naturals.{le_or_lt}
use Rattle.laws.proofs.Lists.{get_or_tab}
use Rattle.laws.proofs.Zed.{abs_add}
use Rattle.laws.proofs.Fill.{tab_same}
use Rattle.laws.proofs.Fills.{filled_front}
use Rattle.laws.proofs.Loops.{Up, ups, up_first, up_more, up_end}
use Rattle.method.specs.declared.Sides.{Sides}
use Rattle.method.specs.declared.Settings.{Settings}
use Rattle.std.specs.Prelude.{Option, None, Some, is_some}
use Rattle.method.specs.Cast.{cells, label_at, is_air, is_opening, field, level, judged, residual, worst, or_else, first}
use Rattle.method.specs.Transfers.{value}
use Rattle.method.specs.Ticks.{tick, ticks, is_refused, whole_of, rounded, passes}
use Rattle.theory.proofs.Firsts.{NoneBelow, none_none, none_end, hit, first_cong}
use Rattle.theory.proofs.Pressures.{length_rounded}
use Rattle.grid.proofs.Steps.{label_out}
use Rattle.signed_numbers.proofs.Laws.{wholes, abs_32}
use Rattle.ticks.specs.declared.Faces.{Faces}
use Rattle.ticks.specs.Worst.{worst_step}
use Rattle.ticks.proofs.TickWhole.{tick_within}
use Rattle.ticks.proofs.Laws.{walks, Gathering, gathering_next, count_open, count_wall, sum_open, sum_wall, worst_is}
use Rattle.acceptance.specs.Trial.{tested}
use Rattle.acceptance.specs.Cells.{rounded_on, pressure_by, Pressure, Added, refused_at}

-- ---- a cell's pressure, by its label
whole_within : (x : Float) → nat_abs (whole_of (tick x)) ≤ 2 ^ 41
unfolding whole_of
whole_within x = go (tick x) refl
  where
    go : (t : Option ℤ) → tick x ≡ t → nat_abs (whole_of t) ≤ 2 ^ 41
    go (Some z) e = tick_within x z e
    go None e = omega arith

wall_is : (l : ℕ) (v : ℤ) (x : Float) → 2 ≤ l → pos 0 ≡ pressure_by l v x
unfolding pressure_by
wall_is zero v x h = absurd (omega arith)
wall_is (suc zero) v x h = absurd (omega arith)
wall_is (suc (suc l)) v x h = refl

module _ (l : ℕ) (v : ℤ) (x : Float) where
  pub pressure_air : (r : ℤ) → SFits w64 r → l ≡ 0 → r ≡ whole_of (tick x) → Pressure l v x (to_z w64 (of_z w64 r))
  unfolding pressure_by
  pressure_air r f k e = rw (to_z-of_z f) (record { is = e ∙ rw k; small = omega (arith, ap nat_abs e, whole_within x) })

  pub pressure_opening : (r : ℤ) → SFits w64 r → SFits w32 v → l ≡ 1 → r ≡ v → Pressure l v x (to_z w64 (of_z w64 r))
  unfolding pressure_by
  pressure_opening r f g k e = rw (to_z-of_z f) (record { is = e ∙ rw k; small = omega (arith, ap nat_abs e, abs_32 v g) })

  pub pressure_wall : (l ≡ 0 → ⊥) → (l ≡ 1 → ⊥) → Pressure l v x (pos 0)
  pressure_wall a b = record { is = wall_is l v x (two l a b); small = omega arith }
    where
      two : (l : ℕ) → (l ≡ 0 → ⊥) → (l ≡ 1 → ⊥) → 2 ≤ l
      two zero a b = absurd (a refl)
      two (suc zero) a b = absurd (b refl)
      two (suc (suc l)) a b = omega arith

-- ---- the rounded ticks are the cells' pressures
map_tab : {A B : Type 0} (f : A → B) (n : ℕ) (h : ℕ → A) → map f (tab n h) ≡ tab n (λ c. f (h c))
unfolding tab
map_tab f zero h = refl
map_tab f (suc n) h = ap (◌∷◌ (f (h 0))) (map_tab f n (λ k. h (suc k)))

by_label : (l : ℕ) (v : ℤ) (x : Float) → whole_of (cond (eqb l 0) (tick x) (Some (cond (eqb l 1) v (pos 0)))) ≡ pressure_by l v x
unfolding whole_of pressure_by
by_label zero v x = refl
by_label (suc zero) v x = refl
by_label (suc (suc l)) v x = rw (ne_eqb (suc (suc l)) 0 (λ z. omega arith), ne_eqb (suc (suc l)) 1 (λ z. omega arith))

module _ (g : Sides) (ls : List ℕ) (vs : List ℤ) (x : List Float) where
  pub rounded_tab : rounded_on g ls vs x ≡ tab (cells g) (λ c. pressure_by (label_at ls c) (field vs c) (value x c))
  unfolding rounded ticks is_air is_opening level
  rounded_tab = map_tab whole_of (cells g) _ ∙ tab_same (cells g) _ _ (λ c l. by_label (label_at ls c) (field vs c) (value x c))

  pub pressure_at : (j : ℕ) → length ls ≡ cells g → pressure_by (label_at ls j) (field vs j) (value x j) ≡ field (rounded_on g ls vs x) j
  pressure_at j e = ⊎_elim
      (λ b. sym (wall_is (label_at ls j) (field vs j) (value x j) (omega (arith, label_out ls j (omega arith))))
      ∙ sym (get_or-eq_default (rounded_on g ls vs x) (pos 0) (omega (arith, length_rounded (record { sides = g; labels = ls; values = vs }) x))))
      (λ b. sym (ap (λ l. get_or l j (pos 0)) rounded_tab ∙ get_or_tab (cells g) (λ c. pressure_by (label_at ls c) (field vs c) (value x c)) j (pos 0) b))
      (le_or_lt (cells g) j)

  -- what `whole_at` hands back, by the cell's label l
  pub pressure_is : (j l : ℕ) (p : ℤ) → length ls ≡ cells g → l ≡ label_at ls j → Pressure l (field vs j) (value x j) p → p ≡ field (rounded_on g ls vs x) j
  pressure_is j l p long e h = h.is ∙ ap (λ m. pressure_by m (field vs j) (value x j)) e ∙ pressure_at j long

-- ---- refused ticks
or_false : (b : Bool) → b ≡ (b || false)
or_false true = refl
or_false false = refl

or_assoc : (a b c : Bool) → ((a || b) || c) ≡ (a || (b || c))
or_assoc true b c = refl
or_assoc false b c = refl

-- a test of all elements is a loop
any_up : {A : Type 0} (p : A → Bool) (n : ℕ) (f : ℕ → A) (b : Bool) → up (λ c s. s || p (f c)) n b ≡ (b || any p (tab n f))
unfolding any tab up
any_up p zero f b = or_false b
any_up p (suc n) f b = up_first (λ c s. s || p (f c)) n b ∙ any_up p n (λ k. f (suc k)) (b || p (f 0)) ∙ or_assoc b (p (f 0)) (any p (tab n (λ k. f (suc k))))

-- .. and some element passes where there is a first that does
met : Option ℕ → Bool
met None = false
met (Some c) = true

met_else : (f : Option ℕ) (b : Bool) (n : ℕ) → (met f || b) ≡ met (or_else f (cond b (Some n) None))
unfolding or_else met
met_else (Some c) b n = refl
met_else None true n = refl
met_else None false n = refl

any_first : {A : Type 0} (p : A → Bool) (n : ℕ) (f : ℕ → A) → any p (tab n f) ≡ met (first (λ c. p (f c)) n)
unfolding up first met
any_first p n f = sym (any_up p n f false) ∙ go n
  where
    go : (n : ℕ) → up (λ c s. s || p (f c)) n false ≡ met (first (λ c. p (f c)) n)
    go zero = refl
    go (suc n) = ap (λ b. b || p (f n)) (go n) ∙ met_else (first (λ c. p (f c)) n) (p (f n)) n

refused_cond : (air : Bool) (t : Option ℤ) (z : ℤ) → is_refused (cond air t (Some z)) ≡ (air && is_refused t)
unfolding is_refused
refused_cond true t z = refl
refused_cond false t z = refl

some_refused : (g : Sides) (ls : List ℕ) (vs : List ℤ) (x : List Float) → length ls ≡ cells g
    → any is_refused (ticks (record { sides = g; labels = ls; values = vs }) x) ≡ met (first (refused_at ls x) (length ls))
unfolding refused_at ticks
some_refused g ls vs x e =
    any_first is_refused (cells g) (λ c. cond (is_air ls c) (tick (value x c)) (Some (level ls vs c)))
    ∙ ap met (first_cong _ _ (cells g) (λ c l. refused_cond (is_air ls c) (tick (value x c)) (level ls vs c)))
    ∙ ap (λ n. met (first (refused_at ls x) n)) (sym e)

-- one cell, by its label l
module _ (ls : List ℕ) (x : List Float) (c l : ℕ) (e : l ≡ label_at ls c) where
  refused_air : (t : Option ℤ) → l ≡ 0 → t ≡ tick (value x c) → is_refused t ≡ refused_at ls x c
  unfolding refused_at is_air
  refused_air t k q = rw (eq-eqb (label_at ls c) 0 (omega arith)) (ap is_refused q)

  pub refused_by : (t : Option ℤ) (r : Bool) → l ≡ 0 → t ≡ tick (value x c) → is_some t ≡ not r → r ≡ refused_at ls x c
  unfolding is_refused
  refused_by t r k q w = none_is t r w ∙ refused_air t k q
    where
      none_is : (t : Option ℤ) (r : Bool) → is_some t ≡ not r → r ≡ is_refused t
      none_is (Some z) false w = refl
      none_is (Some z) true w = cc
      none_is None true w = refl
      none_is None false w = cc

  pub refused_not : (r : Bool) → r ≡ eqb l 0 → (l ≡ 0 → ⊥) → r ≡ refused_at ls x c
  unfolding refused_at is_air
  refused_not r q k = rw (ne_eqb (label_at ls c) 0 (λ z. k (e ∙ z))) (q ∙ ne_eqb l 0 k)

-- ---- a cell across a face, by its label l
module _ (g : Sides) (ls : List ℕ) (vs : List ℤ) (x : List Float) (j l : ℕ) (e : l ≡ label_at ls j) (long : length ls ≡ cells g) where
  pub added_open : (a : Faces) (p s : ℤ) → l < 2 → Pressure l (field vs j) (value x j) p → SFits w64 s → s ≡ a.sum +ᶻ p
      → Added ls (rounded_on g ls vs x) j a (record { d = a.d + 1; sum = to_z w64 (of_z w64 s) })
  added_open a p s k h f q =
      let own : p ≡ field (rounded_on g ls vs x) j = pressure_is g ls vs x j l p long e h in
      rw (to_z-of_z f)
      (record {
        visited = record { count = count_open ls j l e a.d k; total = sum_open ls j l e (rounded_on g ls vs x) s a.sum k (q ∙ ap (◌+ᶻ◌ a.sum) own) };
        small = omega (arith, ap nat_abs q, abs_add a.sum p, h.small);
      })

  pub added_wall : (a : Faces) → 2 ≤ l → Added ls (rounded_on g ls vs x) j a a
  added_wall a k = record {
    visited = record { count = count_wall ls j l e a.d k; total = sum_wall ls j l e (rounded_on g ls vs x) a.sum k };
    small = omega arith;
  }

pub label_inside : (ls : List ℕ) (j l : ℕ) → l ≡ label_at ls j → l < 2 → j < length ls
label_inside ls j l e k = ⊎_elim (λ b. absurd (omega (arith, label_out ls j b))) (λ b. b) (le_or_lt (length ls) j)

pub gathering_added : {ls : List ℕ} {ps : List ℤ} {near : List ℕ} {i : ℕ} {a r : Faces} → Gathering ls ps near i a → Added ls ps (get_or near i 0) a r → Gathering ls ps near (i + 1) r
gathering_added h v = gathering_next v.small h v.visited

-- ---- the worst so far grows with the cells
module _ (g : Sides) (ls : List ℕ) (vs ps : List ℤ) where
  worst_step_lem : (c w : ℕ) → w ≤ worst_step g ls vs ps c w
  unfolding worst_step
  worst_step_lem c w = go (judged ls c)
    where
      go : (b : Bool) → w ≤ cond b (max w (nat_abs (residual g ls (field vs) (field ps) c))) w
      go true = omega arith
      go false = omega arith

  worst_grows : (c n : ℕ) → c ≤ n → up (worst_step g ls vs ps) c 0 ≤ up (worst_step g ls vs ps) n 0
  unfolding up
  worst_grows c zero h = let e : c ≡ 0 = omega arith in rw e (omega arith)
  worst_grows c (suc n) h = ⊎_elim
      (λ e. rw e (omega arith))
      (λ l. omega (arith, worst_grows c n (le_of_suc-le-suc l), worst_step_lem n (up (worst_step g ls vs ps) n 0)))
      (eq-or-lt_of_le h)

-- ---- the verdict: at a cell that fails, and after the last one
module _ (g : Sides) (ls : List ℕ) (vs : List ℤ) (x : List Float) (t : Settings) (c : ℕ) (long : length ls ≡ cells g) where
  passes_is : (f : Option ℕ) (w : ℕ) → f ≡ first (refused_at ls x) (length ls) → w ≡ up (worst_step g ls vs (rounded_on g ls vs x)) (length ls) 0
      → passes (record { sides = g; labels = ls; values = vs }) t x ≡ (not (met f) && leb w t.tolerance)
  unfolding passes
  passes_is f w e q =
      ap₂ (λ u v. not u && leb v t.tolerance) (some_refused g ls vs x long ∙ ap met (sym e)) (sym (worst_is g ls vs (rounded_on g ls vs x) w long q))

  pub refused_fails : (b : Bool) → c < length ls → NoneBelow (refused_at ls x) c → b ≡ refused_at ls x c → b ≡ true
      → None ≡ tested (record { sides = g; labels = ls; values = vs }) t x
  unfolding tested met
  refused_fails b l h e k = rw (passes_is (Some c) _ (hit (refused_at ls x) c (length ls) b l h e k) refl)

  pub beyond_fails : (w v : ℕ) → c < length ls → Up (worst_step g ls vs (rounded_on g ls vs x)) 0 c w → v ≡ worst_step g ls vs (rounded_on g ls vs x) c w → t.tolerance < v
      → None ≡ tested (record { sides = g; labels = ls; values = vs }) t x
  unfolding tested
  beyond_fails w v l h e k =
      let n : v ≡ up (worst_step g ls vs (rounded_on g ls vs x)) (c + 1) 0 = (up_more h e).is in
      let m : t.tolerance < up (worst_step g ls vs (rounded_on g ls vs x)) (length ls) 0 =
      omega (arith, worst_grows g ls vs (rounded_on g ls vs x) (c + 1) (length ls) (omega arith)) in
      rw (passes_is _ _ refl refl, lt-leb _ t.tolerance m) (no (not (met (first (refused_at ls x) (length ls)))))
    where
      no : (b : Bool) → None ≡ cond (b && false) (Some (worst (record { sides = g; labels = ls; values = vs }) (rounded_on g ls vs x))) None
      no true = refl
      no false = refl

  pub within_passes : (w : ℕ) → c ≤ length ls → length ls ≤ c → NoneBelow (refused_at ls x) c → Up (worst_step g ls vs (rounded_on g ls vs x)) 0 c w → w ≤ t.tolerance
      → Some w ≡ tested (record { sides = g; labels = ls; values = vs }) t x
  unfolding tested met
  within_passes w a b h u k =
      let q : w ≡ up (worst_step g ls vs (rounded_on g ls vs x)) (length ls) 0 = up_end (length ls) u a b in
      rw (passes_is None w (none_end (refused_at ls x) c (length ls) a b h) q, le-leb w t.tolerance k)
      (ap Some (worst_is g ls vs (rounded_on g ls vs x) w long q))

-- ---- the pressures, written down
abbrev pub writing : List ℕ → List ℤ → List Float → ℕ → List ℤ → List ℤ
writing ls vs x c ps = set ps c (pressure_by (label_at ls c) (field vs c) (value x c))

pub put : (ls : List ℕ) (c l : ℕ) (v p : ℤ) (x : Float) → l ≡ label_at ls c → SFits w64 p → Pressure l v x p → to_z w64 (of_z w64 p) ≡ pressure_by (label_at ls c) v x
put ls c l v p x e f h = to_z-of_z f ∙ h.is ∙ ap (λ m. pressure_by m v x) e

pub written : (g : Sides) (ls : List ℕ) (vs : List ℤ) (x : List Float) (old new : List ℤ) → length ls ≡ cells g → length old ≡ cells g
    → new ≡ up (writing ls vs x) (length ls) old → new ≡ rounded_on g ls vs x
written g ls vs x old new e f h =
    h ∙ ap (λ n. up (writing ls vs x) n old) e
    ∙ filled_front (writing ls vs x) (λ c r. pressure_by (label_at ls c) (field vs c) (value x c)) (cells g) old (λ c r. refl) (λ c i v r a b. refl) (omega arith)
    ∙ ap (λ l. tab (cells g) (λ c. pressure_by (label_at ls c) (field vs c) (value x c)) ++ l) (drop_of_length-le old {i = cells g} (omega arith))
    ∙ append-nil _
    ∙ sym (rounded_tab g ls vs x)

-- what closes the needs of the functions for one cell, for the six cells across its faces, and for the test
pub ruleset pressed = (wholes, pressure_air, pressure_opening, pressure_wall, label_inside, added_open, added_wall, put)

pub ruleset gathers = (walks, gathering_added)

pub ruleset turns = (ups, none_none)
