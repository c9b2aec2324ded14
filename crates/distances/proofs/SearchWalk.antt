-- The distances of the meaning are such as the search finds: so its marks are those of `walk`, and give depth and the
-- first sealed cell. Assumes nothing.
use Prim.Native.Nat.{ℕ, zero, suc, ◌+◌, ◌-◌, ◌<◌, ◌≤◌, max}
use mathlib.Core.Path.{◌≡◌, refl, sym, ap, ap₂, ◌∙◌}
use mathlib.Core.Logic.{◌⊎◌, inl, inr, ⊎_elim}
use mathlib.Core.Bool.{Bool, true, false, not, cond, ◌&&◌}
use mathlib.Core.List.{List, Memᴰ}
use native.Mathlib.Omega.{arith}
use lib.Dec.{T, eqb, eqb-suc-zero}
use lib.ListN.{length, get_or, drop, get_or-eq_default}
use borrow.Author.Rules.{rules}
use Rattle.laws.specs.Loops.{up}
use Rattle.laws.specs.Lists.{any}
use Rattle.laws.proofs.Bools.{and_l, is_true}
use Rattle.laws.proofs.Naturals.{le_or_lt}
use Rattle.laws.proofs.Lists.{length_tab, get_or_tab}
use Rattle.method.specs.declared.Sides.{Sides}
use Rattle.std.specs.Prelude.{Option, None, Some}
use Rattle.method.specs.Cast.{cells, is_air, is_opening, around, judged, or_else, first}
use Rattle.method.specs.Walks.{is_at, nearer, walks, walk, steps_of, depth, sealed}
use Rattle.theory.specs.Walks.{Walk, last, step}
use Rattle.theory.specs.Sides.{Fit}
use Rattle.theory.proofs.Neighbours.{beside_sym'}
use Rattle.theory.proofs.Reach.{air_test, test_air, opening_test, test_opening, walk_air, in_box_lem, found_cases, never, same_steps, known, later, least_walk, no_walk}
use Rattle.grid.proofs.Steps.{cells_most}
use Rattle.distances.specs.declared.Walked.{Walked}
use Rattle.distances.specs.Search.{searched, mark_of, deeper, lost, Roomy, Measured}
use Rattle.distances.proofs.SearchRight.{Distances, marks_right, rest_kept}

-- what is known at the start: an opening is at 0 steps
abbrev begun : Bool → Option ℕ
begun b = cond b (Some 0) None

module _ (s : Sides) (ls : List ℕ) where
  -- what is known is an opening or air: a wall is never reached
  clear_start : (i d : ℕ) (b : Bool) → (T b → T (is_opening ls i)) → begun b ≡ Some d → T (is_opening ls i)
  clear_start i d true f e = f tt
  clear_start i d false f e = absurd (never refl e)

  clear : (k i d : ℕ) → known s ls k i ≡ Some d → T (is_opening ls i) ⊎ T (is_air ls i)
  unfolding known walks nearer
  clear zero i d e = ⊎_elim
      (λ o. absurd (never (get_or-eq_default (walks s ls 0) None (omega (arith, length_tab (cells s) (λ c. begun (is_opening ls c))))) e))
      (λ l. inl (clear_start i d (is_opening ls i) (λ t. t) (sym (get_or_tab (cells s) (λ c. begun (is_opening ls c)) i None l) ∙ e)))
      (le_or_lt (cells s) i)
  clear (suc k) i d e = ⊎_elim
      (λ o. absurd (never (get_or-eq_default (walks s ls (suc k)) None (omega (arith, length_tab (cells s) f))) e))
      (λ l. go (get_or (walks s ls k) i None) (is_air ls i && any (λ j. is_at (get_or (walks s ls k) j None)) (around s i)) (λ c q. clear k i c q)
      (λ t. and_l (is_air ls i) (any (λ j. is_at (get_or (walks s ls k) j None)) (around s i)) t) refl (sym (get_or_tab (cells s) f i None l) ∙ e))
      (le_or_lt (cells s) i)
    where
      f : ℕ → Option ℕ
      f c = nearer (is_air ls c && any (λ j. is_at (get_or (walks s ls k) j None)) (around s c)) k (get_or (walks s ls k) c None)

      go : (w : Option ℕ) (b : Bool) → ((c : ℕ) → get_or (walks s ls k) i None ≡ Some c → T (is_opening ls i) ⊎ T (is_air ls i)) → (T b → T (is_air ls i))
          → get_or (walks s ls k) i None ≡ w → nearer b k w ≡ Some d → T (is_opening ls i) ⊎ T (is_air ls i)
      go (Some c) b rec g q r = rec c q
      go None true rec g q r = inr (g tt)
      go None false rec g q r = absurd (never refl r)

  -- an opening is at 0 steps
  opening_known : (i : ℕ) → i < cells s → T (is_opening ls i) → known s ls 0 i ≡ Some 0
  unfolding known walks
  opening_known i l t = get_or_tab (cells s) (λ c. begun (is_opening ls c)) i None l ∙ ap begun (is_true (is_opening ls i) t)

  abbrev pub δ : ℕ → Option ℕ
  δ c = get_or (walk s ls) c None

  module _ (fit : Fit s) (sized : length ls ≡ cells s) where
    at_known : (i d : ℕ) → δ i ≡ Some d → known s ls (cells s) i ≡ Some d
    unfolding known walk
    at_known i d e = e

    known_at : (i d : ℕ) → known s ls (cells s) i ≡ Some d → δ i ≡ Some d
    unfolding known walk
    known_at i d e = e

    air_in_lem : (c : ℕ) → T (is_air ls c) → c < cells s
    air_in_lem c t = in_box_lem (cells s) ls sized c (omega (arith, test_air ls c t))

    at_opening : (c : ℕ) → c < cells s → T (is_opening ls c) → δ c ≡ Some 0
    at_opening c l t = known_at c 0 (later s ls 0 (cells s) c 0 (omega arith) (opening_known c l t))

    cell : (c d : ℕ) → δ c ≡ Some d → c < cells s
    cell c d e = ⊎_elim
        (λ t. in_box_lem (cells s) ls sized c (omega (arith, test_opening ls c t)))
        (λ t. air_in_lem c t)
        (clear (cells s) c d (at_known c d e))

    no_empty : (c k : ℕ) → Walk s ls c k → k ≡ 0 → ⊥
    no_empty c k (last a b o) e = omega arith
    no_empty c k (step a b w) e = omega arith

    opening_at : (c : ℕ) → δ c ≡ Some 0 → T (is_opening ls c)
    opening_at c e = ⊎_elim
        (λ t. t)
        (λ t. absurd (no_empty c 0 (least_walk s ls sized c 0 (test_air ls c t) e).0 refl))
        (clear (cells s) c 0 (at_known c 0 e))

    -- a cell with a walk is known, by no more steps
    walked : (c k : ℕ) → Walk s ls c k → (e : ℕ) × (e ≤ k) × (δ c ≡ Some e)
    walked c k w = found_cases (δ c)
        (λ e q. (e, (least_walk s ls sized c e (walk_air w) q).1 k w, q))
        (λ q. absurd (no_walk s ls sized c (walk_air w) q k w))

    -- the first step of a least walk
    before_walk : (c d : ℕ) → Walk s ls c (suc d) → ((e : ℕ) → Walk s ls c e → suc d ≤ e) → T (is_air ls c) × ((j : ℕ) × Memᴰ j (around s c) × (δ j ≡ Some d))
    before_walk c d (last {j = j} a b o) least = (air_test ls c a, (j, b, at_opening j (in_box_lem (cells s) ls sized j (omega arith)) (opening_test ls j o)))
    before_walk c d (step {j = j} a b w) least =
        let r = walked j d w in
        let f = (least_walk s ls sized j r.0 (walk_air w) r.2).0 in
        (air_test ls c a, (j, b, r.2 ∙ ap Some (omega (arith, r.1, least (suc r.0) (step a b f)))))

    before : (c d : ℕ) → δ c ≡ Some (suc d) → T (is_air ls c) × ((j : ℕ) × Memᴰ j (around s c) × (δ j ≡ Some d))
    before c d e = ⊎_elim
        (λ t. absurd (omega (arith, same_steps e (at_opening c (cell c (suc d) e) t))))
        (λ t. let r = least_walk s ls sized c (suc d) (test_air ls c t) e in before_walk c d r.0 r.1)
        (clear (cells s) c (suc d) (at_known c (suc d) e))

    after : (c j d : ℕ) → T (is_air ls c) → Memᴰ j (around s c) → δ j ≡ Some d → (e : ℕ) × (e ≤ suc d) × (δ c ≡ Some e)
    after c j d t m e = ⊎_elim
        (λ o. let r = walked c 1 (last (test_air ls c t) m (test_opening ls j o)) in (r.0, omega (arith, r.1), r.2))
        (λ a. walked c (suc d) (step (test_air ls c t) m (least_walk s ls sized j d (test_air ls j a) e).0))
        (clear (cells s) j d (at_known j d e))

    -- THE BRIDGE: what the meaning's walk says
    pub distances : Distances (cells s) (is_air ls) (is_opening ls) (around s) δ
    distances = record {
      at_opening = at_opening;
      opening_at = opening_at;
      before = before;
      after = after;
      cell = cell;
      air_cell = air_in_lem;
      both = λ i j l k m. beside_sym' s fit.nx_one fit.ny_one fit.nz_one i j l k m;
    }

-- ---- the search's marks are the walk's
module _ (s : Sides) (ls room : List ℕ) (r : Roomy s ls room) where
  pub searched_marks : (c : ℕ) → c < cells s → get_or (searched s ls room).room c 0 ≡ mark_of (get_or (walk s ls) c None)
  unfolding searched
  searched_marks = marks_right (cells s) (is_air ls) (is_opening ls) (around s) (δ s ls) (distances s ls r.fit r.sized) room (cells_most s r.fit) r.long

  -- and what lies behind the queue is as it was
  pub searched_rest : drop (cells s + cells s) (searched s ls room).room ≡ drop (cells s + cells s) room
  unfolding searched
  searched_rest = rest_kept (cells s) (is_air ls) (is_opening ls) (around s) (δ s ls) (distances s ls r.fit r.sized) room (cells_most s r.fit) r.long

-- ---- depth and the first sealed cell
up_below : {A : Type 0} (f g : ℕ → A → A) (n : ℕ) (a : A) → ((c : ℕ) → c < n → (x : A) → f c x ≡ g c x) → up f n a ≡ up g n a
unfolding up
up_below f g zero a h = refl
up_below f g (suc n) a h = h n (omega arith) (up f n a) ∙ ap (g n) (up_below f g n a (λ c l x. h c (omega arith) x))

steps_of_lem : (f : Option ℕ) → mark_of f - 1 ≡ steps_of f
unfolding mark_of steps_of
steps_of_lem None = refl
steps_of_lem (Some d) = omega arith

no_mark : (f : Option ℕ) → eqb (mark_of f) 0 ≡ not (is_at f)
unfolding mark_of is_at
no_mark None = refl
no_mark (Some d) = eqb-suc-zero d

module _ (s : Sides) (ls marks : List ℕ) (right : (c : ℕ) → c < cells s → get_or marks c 0 ≡ mark_of (get_or (walk s ls) c None)) where
  pub depth_is : up (deeper ls marks) (cells s) 0 ≡ depth s ls
  unfolding depth deeper judged
  depth_is = up_below (deeper ls marks) (λ c d. cond (is_air ls c) (max d (steps_of (get_or (walk s ls) c None))) d) (cells s) 0
      (λ c l d. ap (λ x. cond (is_air ls c) (max d x) d) (ap (λ x. x - 1) (right c l) ∙ steps_of_lem (get_or (walk s ls) c None)))

  pub sealed_is : first (lost ls marks) (cells s) ≡ sealed s ls
  unfolding sealed first lost
  sealed_is = up_below (λ c f. or_else f (cond (lost ls marks c) (Some c) None)) (λ c f. or_else f (cond (is_air ls c && not (is_at (get_or (walk s ls) c None))) (Some c) None)) (cells s) None
      (λ c l f. ap (λ b. or_else f (cond (is_air ls c && b) (Some c) None)) (ap (λ x. eqb x 0) (right c l) ∙ no_mark (get_or (walk s ls) c None)))

-- ---- so the code measures what it promises
pub roomy_few : (s : Sides) (ls room : List ℕ) → Roomy s ls room → length ls ≤ 32768
roomy_few s ls room r = omega (arith, r.sized, cells_most s r.fit)

pub measured : (s : Sides) (ls room end : List ℕ) (d : ℕ) (f : Option ℕ) → Roomy s ls room → end ≡ (searched s ls room).room → d ≡ up (deeper ls end) (length ls) 0
    → f ≡ first (lost ls end) (length ls) → Measured s ls room end (record { depth = d; sealed = f })
measured s ls room end d f r e a b = record {
  depth_is = a ∙ ap (λ n. up (deeper ls end) n 0) r.sized ∙ depth_is s ls end right;
  sealed_is = b ∙ ap (first (lost ls end)) r.sized ∙ sealed_is s ls end right;
  room_is = e;
}
  where
    right : (c : ℕ) → c < cells s → get_or end c 0 ≡ mark_of (get_or (walk s ls) c None)
    right c l = ap (λ x. get_or x c 0) e ∙ searched_marks s ls room r c l

pub ruleset measuring = (rules, roomy_few, measured)

-- the promise fixes the result and the room
pub measured_one : (s : Sides) (ls room a b : List ℕ) (q r : Walked) → Measured s ls room a q → Measured s ls room b r → (q ≡ r) × (a ≡ b)
measured_one s ls room a b q r m k =
    (ap₂ (λ d f. record { depth = d; sealed = f }) (m.depth_is ∙ sym k.depth_is) (m.sealed_is ∙ sym k.sealed_is), m.room_is ∙ sym k.room_is)
