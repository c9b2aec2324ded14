-- The walks of the meaning are walks: `walks s ls k` knows a cell exactly if it has a walk of at most k steps, by the
-- least number of steps; and as many steps as there are cells are enough. Assumes nothing.
use mathlib.Core.Path.{◌≡◌, refl, sym, ap, ap₂, subst, ◌∙◌}
use mathlib.Core.Logic.{◌⊎◌, inl, inr, ⊎_elim}
use mathlib.Core.Bool.{Bool, true, false, ◌&&◌, ◌||◌, cond}
use mathlib.Core.List.{List}
use Prim.Native.Nat.{ℕ, zero, suc, ◌+◌, ◌-◌, ◌<◌, ◌≤◌}
use native.Mathlib.Nat.{zero-add, suc-add}
use native.Mathlib.Omega.{arith}
use lib.Dec.{T, eqb→eq}
use lib.ListN.{length, get_or, get_or-eq_default}
use borrow.Author.Tests.{eq-eqb, lt-ltb}
use Rattle.laws.specs.Lists.{any}
use Rattle.laws.proofs.Bools.{and_l, and_r, and_in, is_true, so}
use Rattle.laws.proofs.Naturals.{le_or_lt}
use Rattle.laws.proofs.Lists.{length_tab, get_or_tab, any_some, any_in, any_cong}
use Rattle.method.specs.declared.Sides.{Sides}
use Rattle.std.specs.Prelude.{Option, None, Some}
use Rattle.method.specs.Cast.{cells, label_at, is_air, is_opening, no_wall, around}
use Rattle.method.specs.Walks.{is_at, nearer, walks, walk}
use Rattle.theory.specs.Walks.{Beside, Walk, last, step}
use Rattle.theory.specs.Totals.{total, one_if}
use Rattle.theory.proofs.Counting.{count_le, agree}

-- ---- labels and tests
pub air_test : (ls : List ℕ) (i : ℕ) → label_at ls i ≡ 0 → T (is_air ls i)
unfolding is_air
air_test ls i e = so (eq-eqb (label_at ls i) 0 e)

pub test_air : (ls : List ℕ) (i : ℕ) → T (is_air ls i) → label_at ls i ≡ 0
unfolding is_air
test_air ls i t = eqb→eq (label_at ls i) 0 t

pub opening_test : (ls : List ℕ) (i : ℕ) → label_at ls i ≡ 1 → T (is_opening ls i)
unfolding is_opening
opening_test ls i e = so (eq-eqb (label_at ls i) 1 e)

pub test_opening : (ls : List ℕ) (i : ℕ) → T (is_opening ls i) → label_at ls i ≡ 1
unfolding is_opening
test_opening ls i t = eqb→eq (label_at ls i) 1 t

pub clear_test : (ls : List ℕ) (i : ℕ) → label_at ls i < 2 → T (no_wall ls i)
unfolding no_wall
clear_test ls i h = so (lt-ltb (label_at ls i) 2 h)

-- a walk starts in air
pub walk_air : {s : Sides} {ls : List ℕ} {i k : ℕ} → Walk s ls i k → label_at ls i ≡ 0
walk_air (last a b o) = a
walk_air (step a b w) = a

-- a cell whose label is no wall's is in the box
pub in_box_lem : (n : ℕ) (ls : List ℕ) → length ls ≡ n → (i : ℕ) → label_at ls i < 2 → i < n
unfolding label_at
in_box_lem n ls e i h = ⊎_elim (λ o. absurd (omega (arith, h, get_or-eq_default ls 2 {n = i} (omega arith)))) (λ l. l) (le_or_lt n i)

-- ---- what is found, by cases
pub found_cases {ℓ} : {X : Type ℓ} (f : Option ℕ) → ((d : ℕ) → f ≡ Some d → X) → (f ≡ None → X) → X
found_cases None g h = h refl
found_cases (Some d) g h = g d refl

pub never : {f : Option ℕ} {d : ℕ} → f ≡ None → f ≡ Some d → ⊥
never p q = let z : ◌≡◌ {A = ℕ} 0 1 = cc in omega arith

pub same_steps : {f : Option ℕ} {d e : ℕ} → f ≡ Some d → f ≡ Some e → d ≡ e
same_steps p q = cc

is_at_lem : (f : Option ℕ) → T (is_at f) → (d : ℕ) × (f ≡ Some d)
unfolding is_at
is_at_lem None t = absurd t
is_at_lem (Some d) t = (d, refl)

at_nearer : (b : Bool) (k : ℕ) (f : Option ℕ) → is_at (nearer b k f) ≡ (is_at f || b)
unfolding is_at nearer
at_nearer b k (Some d) = refl
at_nearer true k None = refl
at_nearer false k None = refl

at_is : {f : Option ℕ} {d : ℕ} → f ≡ Some d → T (is_at f)
unfolding is_at
at_is e = rw e tt

module _ (s : Sides) (ls : List ℕ) where
  -- what is known of cell i after k steps
  unfoldable pub known : ℕ → ℕ → Option ℕ
  known k i = get_or (walks s ls k) i None

  length_walks : (k : ℕ) → length (walks s ls k) ≡ cells s
  unfolding walks
  length_walks zero = length_tab (cells s) (λ c. cond (is_opening ls c) (Some 0) None)
  length_walks (suc k) =
      length_tab (cells s) (λ c. nearer (is_air ls c && any (λ j. is_at (get_or (walks s ls k) j None)) (around s c)) k (get_or (walks s ls k) c None))

  known_out : (k i : ℕ) → cells s ≤ i → known k i ≡ None
  unfolding known
  known_out k i h = get_or-eq_default (walks s ls k) None (omega (arith, length_walks k))

  known_zero : (i : ℕ) → i < cells s → known 0 i ≡ cond (is_opening ls i) (Some 0) None
  unfolding known walks
  known_zero i l = get_or_tab (cells s) (λ c. cond (is_opening ls c) (Some 0) None) i None l

  known_suc : (k i : ℕ) → i < cells s → known (suc k) i ≡ nearer (is_air ls i && any (λ j. is_at (known k j)) (around s i)) k (known k i)
  unfolding known walks
  known_suc k i l =
      get_or_tab (cells s) (λ c. nearer (is_air ls c && any (λ j. is_at (get_or (walks s ls k) j None)) (around s c)) k (get_or (walks s ls k) c None)) i None l

  -- ---- how a cell came to be known
  at_start : (i d : ℕ) → known 0 i ≡ Some d → (d ≡ 0) × (label_at ls i ≡ 1)
  at_start i d e = ⊎_elim (λ o. absurd (never (known_out 0 i o) e)) (λ l. go (is_opening ls i) (λ t. test_opening ls i t) (sym (known_zero i l) ∙ e)) (le_or_lt (cells s) i)
    where
      go : (b : Bool) → (T b → label_at ls i ≡ 1) → cond b (Some 0) None ≡ Some d → (d ≡ 0) × (label_at ls i ≡ 1)
      go true f q = (same_steps q refl, f tt)
      go false f q = absurd (never refl q)

  Next : ℕ → ℕ → Type 0
  Next k i = (label_at ls i ≡ 0) × ((j : ℕ) × Beside s i j × T (is_at (known k j)))

  came : (k i d : ℕ) → known (suc k) i ≡ Some d → (known k i ≡ Some d) ⊎ ((d ≡ suc k) × Next k i)
  unfolding nearer Next
  came k i d e = ⊎_elim
      (λ o. absurd (never (known_out (suc k) i o) e))
      (λ l. go (is_air ls i && any (λ j. is_at (known k j)) (around s i)) (known k i) (λ t. t) refl (sym (known_suc k i l) ∙ e))
      (le_or_lt (cells s) i)
    where
      go : (b : Bool) (f : Option ℕ) → (T b → T (is_air ls i && any (λ j. is_at (known k j)) (around s i))) → known k i ≡ f → nearer b k f ≡ Some d
          → (known k i ≡ Some d) ⊎ ((d ≡ suc k) × ((label_at ls i ≡ 0) × ((j : ℕ) × Beside s i j × T (is_at (known k j)))))
      go b (Some c) g q r = inl (q ∙ r)
      go true None g q r = inr (
        sym (same_steps {f = Some (suc k)} refl r),
        (
          test_air ls i (and_l (is_air ls i) (any (λ j. is_at (known k j)) (around s i)) (g tt)),
          any_some (λ j. is_at (known k j)) (around s i) (and_r (is_air ls i) (any (λ j. is_at (known k j)) (around s i)) (g tt)),
        ),
      )
      go false None g q r = absurd (never refl r)

  -- no number is above the number of steps looked at; what is known is no wall
  pub bounded : (k i d : ℕ) → known k i ≡ Some d → d ≤ k
  bounded zero i d e = omega (arith, (at_start i d e).0)
  bounded (suc k) i d e = ⊎_elim (λ q. omega (arith, bounded k i d q)) (λ q. omega (arith, q.0)) (came k i d e)

  clear : (k i d : ℕ) → known k i ≡ Some d → (label_at ls i ≡ 1) ⊎ (label_at ls i ≡ 0)
  unfolding Next
  clear zero i d e = inl (at_start i d e).1
  clear (suc k) i d e = ⊎_elim (λ q. clear k i d q) (λ q. inr q.1.0) (came k i d e)

  -- ---- a known air cell has a walk
  pub sound : (k i d : ℕ) → known k i ≡ Some d → label_at ls i ≡ 0 → (e : ℕ) × (e ≤ d) × Walk s ls i e
  unfolding Next
  sound zero i d e a = absurd (omega (arith, a, (at_start i d e).1))
  sound (suc k) i d e a = ⊎_elim (λ q. sound k i d q a) (λ q. from q.0 q.1.1 (λ j c h o. sound k j c h o)) (came k i d e)
    where
      from : d ≡ suc k → (j : ℕ) × Beside s i j × T (is_at (known k j)) → ((j c : ℕ) → known k j ≡ Some c → label_at ls j ≡ 0 → (e : ℕ) × (e ≤ c) × Walk s ls j e)
          → (e : ℕ) × (e ≤ d) × Walk s ls i e
      from q r rec =
          let j = r.0 in
          let c = is_at_lem (known k j) r.2 in
          ⊎_elim
          (λ o. (1, omega (arith, q), last a r.1 o))
          (λ o. let w = rec j c.0 c.1 o in (suc w.0, omega (arith, q, w.1, bounded k j c.0 c.1), step a r.1 w.2))
          (clear k j c.0 c.1)

  -- ---- what is known stays known
  stays : (k i d : ℕ) → known k i ≡ Some d → known (suc k) i ≡ Some d
  unfolding nearer
  stays k i d e = ⊎_elim
      (λ o. absurd (never (known_out k i o) e))
      (λ l. known_suc k i l ∙ ap (λ f. nearer (is_air ls i && any (λ j. is_at (known k j)) (around s i)) k f) e)
      (le_or_lt (cells s) i)

  stays_add : (m k i d : ℕ) → known k i ≡ Some d → known (m + k) i ≡ Some d
  stays_add zero k i d e = ap (λ x. known x i) (zero-add k) ∙ e
  stays_add (suc m) k i d e = ap (λ x. known x i) (suc-add m k) ∙ stays (m + k) i d (stays_add m k i d e)

  pub later : (k m i d : ℕ) → k ≤ m → known k i ≡ Some d → known m i ≡ Some d
  later k m i d h e = ap (λ x. known x i) whole ∙ stays_add (m - k) k i d e
    where
      whole : m ≡ m - k + k
      whole = omega arith

  -- ---- a cell with a walk is known
  module _ (sized : length ls ≡ cells s) where
    reached : (k i j : ℕ) → label_at ls i ≡ 0 → Beside s i j → T (is_at (known k j)) → (d : ℕ) × (d ≤ suc k) × (known (suc k) i ≡ Some d)
    unfolding nearer
    reached k i j a b t = found_cases (known k i)
        (λ d e. (d, omega (arith, bounded k i d e), stays k i d e))
        (λ e. (suc k, omega arith, known_suc k i (in_box_lem (cells s) ls sized i (omega arith)) ∙ ap₂ (λ x f. nearer x k f) near e))
      where
        near : (is_air ls i && any (λ j. is_at (known k j)) (around s i)) ≡ true
        near = is_true (is_air ls i && any (λ j. is_at (known k j)) (around s i))
            (and_in (is_air ls i) (any (λ j. is_at (known k j)) (around s i)) (air_test ls i a) (any_in (λ j. is_at (known k j)) (around s i) j b t))

    pub complete : {i e : ℕ} → Walk s ls i e → (d : ℕ) × (d ≤ e) × (known e i ≡ Some d)
    complete (last {i = i} {j = j} a b o) = reached 0 i j a b (at_is (known_zero j (in_box_lem (cells s) ls sized j (omega arith)) ∙ ap (λ x. cond x (Some 0) None) (is_true (is_opening ls j) (opening_test ls j o))))
    complete (step {i = i} {j = j} {k = k} a b w) = reached k i j a b (at_is (complete w).2)

  -- ---- as many steps as there are cells are enough
  near : ℕ → ℕ → Bool
  near k i = is_at (known k i)

  near_suc : (k i : ℕ) → i < cells s → near (suc k) i ≡ (near k i || (is_air ls i && any (near k) (around s i)))
  unfolding near
  near_suc k i l = ap is_at (known_suc k i l) ∙ at_nearer (is_air ls i && any (λ j. is_at (known k j)) (around s i)) k (known k i)

  near_out : (k i : ℕ) → cells s ≤ i → near k i ≡ false
  unfolding near is_at
  near_out k i h = ap is_at (known_out k i h)

  near_more : (k i : ℕ) → T (near k i) → T (near (suc k) i)
  unfolding near
  near_more k i t = let c = is_at_lem (known k i) t in at_is (stays k i c.0 c.1)

  round_cong : (k k' : ℕ) → ((i : ℕ) → i < cells s → near k i ≡ near k' i) → (i : ℕ) → i < cells s → near (suc k) i ≡ near (suc k') i
  round_cong k k' h i l =
      near_suc k i l ∙ ap₂ (λ a b. a || (is_air ls i && b)) (h i l) (any_cong (near k) (near k') (around s i) everywhere) ∙ sym (near_suc k' i l)
    where
      everywhere : (j : ℕ) → near k j ≡ near k' j
      everywhere j = ⊎_elim (λ o. near_out k j o ∙ sym (near_out k' j o)) (λ m. h j m) (le_or_lt (cells s) j)

  -- a round that adds nothing is the last
  settled : (k : ℕ) → ((i : ℕ) → i < cells s → near (suc k) i ≡ near k i) → (j i : ℕ) → i < cells s → near (j + k) i ≡ near k i
  settled k h zero i l = ap (λ x. near x i) (zero-add k)
  settled k h (suc j) i l = ap (λ x. near x i) (suc-add j k) ∙ round_cong (j + k) k (settled k h j) i l ∙ h i l

  -- by round k either the search has settled, at a round before, or it has reached k cells
  progress : (k : ℕ) → ((j : ℕ) × (j < k) × ((i : ℕ) → i < cells s → near (suc j) i ≡ near j i)) ⊎ (k ≤ total (cells s) (λ i. one_if (near k i)))
  progress zero = inr (omega arith)
  progress (suc k) = ⊎_elim
      (λ r. inl (r.0, omega (arith, r.1), r.2))
      (λ h. ⊎_elim
      (λ e. inl (k, omega arith, agree (cells s) (near k) (near (suc k)) (near_more k) e))
      (λ e. inr (omega arith))
      (le_or_lt (total (cells s) (λ i. one_if (near (suc k) i))) (total (cells s) (λ i. one_if (near k i)))))
      (progress k)

  near_later : (k m i : ℕ) → k ≤ m → T (near k i) → T (near m i)
  unfolding near
  near_later k m i h t = let c = is_at_lem (known k i) t in at_is (later k m i c.0 h c.1)

  enough : (k i : ℕ) → i < cells s → T (near k i) → T (near (cells s) i)
  enough k i l t = ⊎_elim
      (λ r. let j = r.0 in
      ⊎_elim
      (λ e. rw (← at_round j r.2 (cells s) (omega (arith, r.1))) at (rw (at_round j r.2 k e) at t))
      (λ e. near_later k (cells s) i (omega (arith, r.1)) t)
      (le_or_lt j k))
      (λ h. absurd (omega (arith, h, count_le (cells s) (near (suc (cells s))))))
      (progress (suc (cells s)))
    where
      at_round : (j : ℕ) → ((i : ℕ) → i < cells s → near (suc j) i ≡ near j i) → (r : ℕ) → j ≤ r → near r i ≡ near j i
      at_round j h r g = ap (λ x. near x i) whole ∙ settled j h (r - j) i l
        where
          whole : r ≡ r - j + j
          whole = omega arith

-- ---- what the meaning's walk says of an air cell: the least number of face steps through air to an opening, or that
-- there is no walk
module _ (s : Sides) (ls : List ℕ) (sized : length ls ≡ cells s) where
  pub least_walk : (i d : ℕ) → label_at ls i ≡ 0 → get_or (walk s ls) i None ≡ Some d → Walk s ls i d × ((e : ℕ) → Walk s ls i e → d ≤ e)
  unfolding walk known
  least_walk i d a e = (exact (sound s ls (cells s) i d e a), least)
    where
      least : (h : ℕ) → Walk s ls i h → d ≤ h
      least h w = ⊎_elim
          (λ l. let c = complete s ls sized w in omega (arith, c.1, same_steps (later s ls h (cells s) i c.0 l c.2) e))
          (λ l. omega (arith, bounded s ls (cells s) i d e))
          (le_or_lt h (cells s))

      exact : (h : ℕ) × (h ≤ d) × Walk s ls i h → Walk s ls i d
      exact r = subst (λ x. Walk s ls i x) (omega (arith, r.1, least r.0 r.2)) r.2

  pub no_walk : (i : ℕ) → label_at ls i ≡ 0 → get_or (walk s ls) i None ≡ None → (e : ℕ) → Walk s ls i e → ⊥
  unfolding walk known near
  no_walk i a e h w =
      let c = complete s ls sized w in
      let r = is_at_lem (get_or (walks s ls (cells s)) i None) (enough s ls h i (in_box_lem (cells s) ls sized i (omega arith)) (at_is c.2)) in
      never e r.1
