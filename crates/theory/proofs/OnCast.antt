-- The bound on a cast: over any set of its air cells that is closed under air neighbours, and over all of its air.
-- Assumes nothing.
use mathlib.Core.Path.{◌≡◌, refl, sym, ap, ◌∙◌}
use mathlib.Core.Bool.{Bool, true, false, not}
use mathlib.Core.List.{List}
use Prim.Native.Nat.{ℕ, zero, suc, ◌*◌, ◌<◌, ◌≤◌}
use native.Mathlib.Nat.{mul-zero}
use native.Mathlib.Omega.{arith}
use lib.Dec.{T, T_not, not_T, ltb, ltb→lt}
use lib.ListN.{length}
use lib.IntN.{ℤ, pos, nat_abs}
use Rattle.laws.specs.Whole.{◌-ᶻ◌, ◌*ᶻ◌}
use Rattle.laws.proofs.Zed.{at, lin, z_eq, eq_z}
use Rattle.method.specs.declared.Sides.{Sides}
use Rattle.method.specs.Cast.{Cast, cells, label_at, is_air, no_wall, around, field, residual, sides_fit, judged, interior}
use Rattle.theory.specs.Walks.{Beside, Walk, last, step}
use Rattle.theory.specs.Exact.{Solves, bound}
use Rattle.theory.proofs.Bound.{lap, Way, leave, step as onward}
use Rattle.theory.specs.Totals.{total, one_if}
use Rattle.theory.proofs.Region.{resid, worth, total_cong, keep_n, region_bound, region_bound_wn}
use Rattle.theory.proofs.Hits.{hits, mem_hits, hits_mem}
use Rattle.theory.proofs.Neighbours.{around_sym}
use Rattle.theory.proofs.Residual.{link, residual_is}
use Rattle.theory.proofs.Reach.{air_test, test_air, clear_test, walk_air, in_box_lem}
use Rattle.theory.proofs.Counting.{counted}

-- ---- links
link_sym : (s : Sides) (ls : List ℕ) → sides_fit s ≡ true → (i j : ℕ) → i < cells s → j < cells s → link s ls i j ≡ link s ls j i
unfolding link
link_sym s ls f i j l k = turn (one_if (no_wall ls i)) (one_if (no_wall ls j)) (hits (around s i) j) (hits (around s j) i) (around_sym s f i j l k)
  where
    turn : (a b x y : ℕ) → x ≡ y → a * (b * x) ≡ b * (a * y)
    turn a b x y e = rw e (omega arith)

-- cells that are no wall and beside each other are linked; what is linked is no wall
linked : (s : Sides) (ls : List ℕ) (i j : ℕ) → label_at ls i < 2 → label_at ls j < 2 → Beside s i j → 1 ≤ link s ls i j
unfolding link
linked s ls i j a b m = go (no_wall ls i) (no_wall ls j) (clear_test ls i a) (clear_test ls j b)
  where
    go : (p q : Bool) → T p → T q → 1 ≤ one_if p * (one_if q * hits (around s i) j)
    go true true t u = omega (arith, mem_hits (around s i) j m)
    go true false t u = absurd u
    go false q t u = absurd t

-- what is linked to an air cell and is no air is an opening
opening_end : (s : Sides) (ls : List ℕ) (i j : ℕ) → 1 ≤ link s ls i j → T (not (is_air ls j)) → label_at ls j ≡ 1
unfolding link no_wall is_air
opening_end s ls i j h o = one (label_at ls j) (go (no_wall ls i) (no_wall ls j) h) (λ e. T_not (is_air ls j) o (air_test ls j e))
  where
    go : (p q : Bool) → 1 ≤ one_if p * (one_if q * hits (around s i) j) → T q
    go true true g = tt
    go true false g = absurd (omega arith)
    go false q g = absurd (omega arith)

    one : (l : ℕ) → T (ltb l 2) → (l ≡ 0 → ⊥) → l ≡ 1
    one zero t f = absurd (f refl)
    one (suc zero) t f = refl
    one (suc (suc l)) t f = absurd (omega (arith, ltb→lt (suc (suc l)) 2 t))

beside_of : (s : Sides) (ls : List ℕ) (i j : ℕ) → 1 ≤ link s ls i j → Beside s i j
unfolding link
beside_of s ls i j h = hits_mem (around s i) j (go (one_if (no_wall ls i)) (one_if (no_wall ls j)) (hits (around s i) j) h)
  where
    go : (a b x : ℕ) → 1 ≤ a * (b * x) → 1 ≤ x
    go a b zero h = absurd (omega (arith, h, mul-zero b, ap (λ z. a * z) (mul-zero b), mul-zero a))
    go a b (suc x) h = omega arith

-- ---- a set G of air cells, closed under air neighbours
pub record Closed (s : Sides) (ls : List ℕ) (G : ℕ → Bool) : Type 0 where
  pub air : (i : ℕ) → T (G i) → label_at ls i ≡ 0
  pub near : (i j : ℕ) → T (G i) → Beside s i j → label_at ls j ≡ 0 → T (G j)

-- a walk that starts in the set is a way out of it
way : (s : Sides) (ls : List ℕ) → length ls ≡ cells s → (G : ℕ → Bool) → Closed s ls G → {i k : ℕ} → Walk s ls i k → T (G i) → Way (cells s) (link s ls) G i k
way s ls e G c (last {i = i} {j = j} a m o) g =
    leave (in_box_lem (cells s) ls e i (omega arith)) (in_box_lem (cells s) ls e j (omega arith)) g
    (not_T (G j) (λ t. omega (arith, c.air j t)))
    (linked s ls i j (omega arith) (omega arith) m)
way s ls e G c (step {i = i} {j = j} a m w) g =
    let b = walk_air w in
    onward (in_box_lem (cells s) ls e i (omega arith)) (in_box_lem (cells s) ls e j (omega arith)) g (c.near i j g m b) (linked s ls i j (omega arith) (omega arith) m) (way s ls e G c w (c.near i j g m b))

-- ---- THE BOUND on a cast: p has the level at each opening, y solves m times the equations
module _ (k : Cast) (fits : sides_fit k.sides ≡ true) (sized : length k.labels ≡ cells k.sides) (p y : ℕ → ℤ) (m : ℕ) (sol : Solves k m y)
    (level-at : (c : ℕ) → label_at k.labels c ≡ 1 → p c ≡ field k.values c) where
  left : ℕ → ℤ
  left c = residual k.sides k.labels (field k.values) p c

  left_is : (i : ℕ) → label_at k.labels i ≡ 0 → left i ≡ resid (cells k.sides) (link k.sides k.labels) (field k.values) p i
  unfolding left
  left_is i a = residual_is k.sides k.labels (field k.values) p sized i (clear_test k.labels i (omega arith))

  exact : (i : ℕ) → label_at k.labels i ≡ 0 → pos m *ᶻ field k.values i ≡ lap (cells k.sides) (link k.sides k.labels) y i
  unfolding resid
  exact i a = none (pos m *ᶻ field k.values i) (lap (cells k.sides) (link k.sides k.labels) y i)
      (sym (residual_is k.sides k.labels (λ i. pos m *ᶻ field k.values i) y sized i (clear_test k.labels i (omega arith))) ∙ sol.at_air i a)
    where
      none : (a b : ℤ) → a -ᶻ b ≡ pos 0 → a ≡ b
      none a b h = let A = at a in let B = at b in z_eq (search lin) (omega (arith, eq_z (search lin) h))

  -- where a link leaves the set it ends in an opening
  leaves : (G : ℕ → Bool) → Closed k.sides k.labels G → (i j : ℕ) → T (G i) → T (not (G j)) → 1 ≤ link k.sides k.labels i j → label_at k.labels j ≡ 1
  leaves G c i j g o h = opening_end k.sides k.labels i j h (not_T (is_air k.labels j) (λ t.
      T_not (G j) o (c.near i j g (beside_of k.sides k.labels i j h) (test_air k.labels j t))))

  edge : (G : ℕ → Bool) → Closed k.sides k.labels G → (i j : ℕ) → T (G i) → T (not (G j)) → 1 ≤ link k.sides k.labels i j → pos m *ᶻ p j ≡ y j
  edge G c i j g o h = let q = leaves G c i j g o h in ap (λ z. pos m *ᶻ z) (level-at j q) ∙ sym (sol.at_openings j q)

  -- at a cell with a walk of h steps: h times m times the sum of the sizes of the set's own residuals
  pub region_on_cast : (G : ℕ → Bool) → Closed k.sides k.labels G → {i h : ℕ} → Walk k.sides k.labels i h → T (G i)
      → nat_abs (pos m *ᶻ p i -ᶻ y i) ≤ h * (m * total (cells k.sides) (λ j. keep_n (G j) (nat_abs (residual k.sides k.labels (field k.values) p j))))
  unfolding worth left
  region_on_cast G c {i} {h} w g =
      rw (total_cong (cells k.sides) (λ j. keep_n (G j) (nat_abs (left j))) (λ j. keep_n (G j) (nat_abs (resid (cells k.sides) (link k.sides k.labels) (field k.values) p j))) (λ j l. alike (G j) j (λ t. c.air j t)))
      (region_bound (cells k.sides) (link k.sides k.labels) (link_sym k.sides k.labels fits) G (field k.values) p y m
      (λ i l t. exact i (c.air i t)) (λ i j l u g o h. edge G c i j g o h) (way k.sides k.labels sized G c w g))
    where
      alike : (b : Bool) (j : ℕ) → (T b → label_at k.labels j ≡ 0) → keep_n b (nat_abs (left j)) ≡ keep_n b (nat_abs (resid (cells k.sides) (link k.sides k.labels) (field k.values) p j))
      alike true j f = ap nat_abs (left_is j (f tt))
      alike false j f = refl

  all_air : Closed k.sides k.labels (is_air k.labels)
  all_air = record { air = λ i t. test_air k.labels i t; near = λ i j t m a. air_test k.labels j a }

  -- with the greatest residual W over all air, the number of air cells and a number D that no walk needs to exceed
  pub bound_on_cast : (W D : ℕ) → ((c : ℕ) → label_at k.labels c ≡ 0 → nat_abs (residual k.sides k.labels (field k.values) p c) ≤ W)
      → {i h : ℕ} → Walk k.sides k.labels i h → h ≤ D → label_at k.labels i ≡ 0
      → nat_abs (pos m *ᶻ p i -ᶻ y i) ≤ bound m W (interior k.sides k.labels) D
  unfolding bound interior judged left
  bound_on_cast W D hW {i} {h} w l a =
      rw (counted (is_air k.labels) (cells k.sides))
      (region_bound_wn (cells k.sides) (link k.sides k.labels) (link_sym k.sides k.labels fits) (is_air k.labels) (field k.values) p y m
      (λ i l t. exact i (all_air.air i t)) (λ i j l u g o h. edge (is_air k.labels) all_air i j g o h)
      D W (λ i l t. rw (← left_is i (all_air.air i t)) (hW i (all_air.air i t)))
      (way k.sides k.labels sized (is_air k.labels) all_air w (air_test k.labels i a)) l)
