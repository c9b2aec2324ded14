-- A level in the lent rooms, and the next: what a cycle's calls ask, and what it makes of their promises. Assumes
-- nothing.
use Prim.Native.Nat.{ℕ, suc, ◌+◌, ◌-◌, ◌*◌, ◌≤◌, ◌<◌}
use mathlib.Core.Path.{◌≡◌, refl, sym, ap, ap₂, ◌∙◌}
use mathlib.Core.List.{List, [], ◌++◌}
use native.Mathlib.Omega.{arith}
use native.Mathlib.Numerals.{add-one}
use borrow.Author.Rules.{rules}
use borrow.Author.Tests.{lt-ltb, le-ltb}
use borrow.Rule.Slice.PartMut.{mid_of, put_mid, same_len_mid}
use mir.Syntax.{w64}
use mir.Val.{Fits}
use lib.Dec.{ltb}
use lib.ListN.{length, take, drop, length-append, length-drop}
use lib.Seq.{drop_at, length-take-le, drop-drop, take-take, take-append-le}
use lib.Ieee.{Float}
use Rattle.laws.proofs.Lists.{length_tab}
use Rattle.laws.proofs.Fill.{part_take}
use Rattle.method.specs.declared.Sides.{Sides}
use Rattle.method.specs.Cast.{cells, is_air}
use Rattle.method.specs.Levels.{halved, coarse}
use Rattle.method.specs.Transfers.{restricted}
use Rattle.method.specs.Cycle.{in_band, cycle, coarsest, downstroke, upstroke, corrected, residue, zeros}
use Rattle.theory.specs.Levels.{sides_at, labels_at, cells_before}
use Rattle.theory.specs.Quiet.{Quiet}
use Rattle.theory.proofs.Quiet.{quiet_cycle, quiet_corrected}
use Rattle.theory.specs.Sides.{Fit}
use Rattle.theory.proofs.Sizes.{fit_at}
use Rattle.theory.proofs.Kept.{length_kept}
use Rattle.grid.proofs.Steps.{cells_most}
use Rattle.levels.specs.Levels.{base, start_in, sides_in, Levels}
use Rattle.bands.specs.Lists.{smoothed, list_of, air_of}
use Rattle.bands.specs.AllLists.{part_in, base_labels, list_at, air_at, Lists, row_in}
use Rattle.levels.proofs.Starts.{start_of, sides_of_lem}
use Rattle.levels.proofs.Calls.{before_up_to}
use Rattle.smooth.specs.Fields.{u_of, b_of, Level, Laid}
use Rattle.smooth.proofs.Fields.{laid_u, laid_b, laid_follows}
use Rattle.smooth.proofs.After.{in_air_length}
use Rattle.transfer.specs.Transfer.{TwoLevels, summed, corrected_room}
use Rattle.cycle.specs.Strokes.{entries_where, AirList, Ended, Put, rising, Lowered}
use Rattle.cycle.specs.Rooms.{list_from, air_from, fields_from, Ready, sides_of, cells_of, labels_of, cycle_from, Cycled, correction, Corrected, LabelsAt, ListAt, AirAt}
use Rattle.cycle.proofs.Air.{air_entries}
use Rattle.cycle.proofs.Laws.{end_kept, end_less, end_lent, put_then, put_as, put_later, later, clear_put, laid_long, part_first, lent_is, home_is}

-- ---- a level's part of the rooms of bytes and words
pub part_fit : (l : Levels) (k n : ℕ) (g : Sides) → LabelsAt l k n → g ≡ sides_in l k → Fit g
part_fit l k n g z q = rw q z.fit

pub part_end : (l : Levels) (k n m : ℕ) (g : Sides) → LabelsAt l k n → g ≡ sides_in l k → m ≡ cells g → start_in l k + m ≤ n
part_end l k n m g z q p = let r : m ≡ cells (sides_in l k) = p ∙ ap cells q in omega (arith, z.inside)

pub part_fits : (l : Levels) (k n m : ℕ) (g : Sides) → LabelsAt l k n → Fits w64 n → g ≡ sides_in l k → m ≡ cells g → Fits w64 (start_in l k + m)
part_fits l k n m g z f q p = omega (arith, part_end l k n m g z q p)

pub part_is : (l : Levels) (k m : ℕ) (g : Sides) (bytes : List ℕ) → g ≡ sides_in l k → m ≡ cells g
    → take (start_in l k + m - start_in l k) (drop (start_in l k) bytes) ≡ part_in l k bytes
unfolding part_in
part_is l k m g bytes q p =
    let r : start_in l k + m - start_in l k ≡ cells (sides_in l k) = omega (arith, p ∙ ap cells q) in
    ap (λ j. take j (drop (start_in l k) bytes)) r

pub list_is : (s : Lists) (k : ℕ) (words : List ℕ)
    → take ((row_in s k).start + (row_in s k).swept - (row_in s k).start) (drop ((row_in s k).start) words) ≡ list_from s k words
unfolding list_from
list_is s k words =
    let r : (row_in s k).start + (row_in s k).swept - (row_in s k).start ≡ (row_in s k).swept = omega arith in
    ap (λ j. take j (drop ((row_in s k).start) words)) r

pub air_is : (s : Lists) (k : ℕ) (words : List ℕ)
    → take ((row_in s k).start + (row_in s k).air - (row_in s k).start) (drop ((row_in s k).start) words) ≡ air_from s k words
unfolding air_from
air_is s k words =
    let r : (row_in s k).start + (row_in s k).air - (row_in s k).start ≡ (row_in s k).air = omega arith in
    ap (λ j. take j (drop ((row_in s k).start) words)) r

pub ruleset parts = (rules, part_fit, part_end, part_fits, part_is, list_is, air_is)

-- ---- the fields of the levels from k on: those of level k, and those of the levels from k + 1 on
sides_next : (g : Sides) (k : ℕ) → sides_at g (k + 1) ≡ halved (sides_at g k)
unfolding sides_at
sides_next g k = rw add-one refl

labels_next : (g : Sides) (ls : List ℕ) (k : ℕ) → labels_at g ls (k + 1) ≡ coarse (sides_at g k) (labels_at g ls k)
unfolding labels_at
labels_next g ls k = rw add-one refl

before_next : (g : Sides) (k : ℕ) → cells_before g (k + 1) ≡ cells_before g k + cells (sides_at g k)
unfolding cells_before
before_next g k = rw add-one refl

fields_next : (g : Sides) (count k : ℕ) → k < count → fields_from g count k ≡ 3 * cells (sides_at g k) + fields_from g count (k + 1)
unfolding fields_from
fields_next g count k h = omega (arith, before_next g k, before_up_to g (k + 1) count (omega arith))

-- all the fields, from level 0 on
pub fields_all : (g : Sides) (count : ℕ) → fields_from g count 0 ≡ 3 * cells_before g count
unfolding fields_from cells_before
fields_all g count = omega arith

-- ---- level k of what is ready
module _ {l : Levels} {s : Lists} {count k : ℕ} {bytes words : List ℕ} {r : ℕ} (z : Ready l s count k bytes words r) where
  six : k < 6
  six = omega (arith, z.below, z.prepared.most)

  sides_here : sides_in l k ≡ sides_of l k
  sides_here = ap (λ m. sides_in m k) z.prepared.laid ∙ sides_of_lem (base l) k six

  start_here : start_in l k ≡ cells_before (base l) k
  start_here = ap (λ m. start_in m k) z.prepared.laid ∙ start_of (base l) k six

  fit_here : Fit (sides_of l k)
  fit_here = fit_at (base l) z.prepared.fit k

  end_here : cells_before (base l) k + cells_of l k ≤ length bytes
  end_here = omega (arith, before_next (base l) k, before_up_to (base l) (k + 1) count (omega (arith, z.below)), z.prepared.inside)

  pub labels_asked : LabelsAt l k (length bytes)
  labels_asked = record { below = six; fit = rw sides_here fit_here; inside = omega (arith, start_here, ap cells sides_here, end_here) }

  pub list_asked : ListAt s k (length words)
  list_asked = record { below = six; inside = omega (arith, z.prepared.ends k z.below, z.prepared.within k z.below) }

  pub air_asked : AirAt s k (length words)
  air_asked = record { below = six; inside = z.prepared.ends k z.below }

  labels_here : part_in l k bytes ≡ labels_of l bytes k
  unfolding part_in
  labels_here = ap₂ (λ g a. take (cells g) (drop a bytes)) sides_here start_here ∙ z.prepared.labels.at k z.below

  base_long : length (base_labels l bytes) ≡ cells (base l)
  unfolding base_labels cells_before sides_at
  base_long = length-take-le (cells (base l)) bytes (omega (arith, before_up_to (base l) 1 count z.prepared.least, z.prepared.inside))

  labels_long : length (labels_of l bytes k) ≡ cells_of l k
  labels_long = length_kept (base l) (base_labels l bytes) base_long k

  pub same_ready : (m : ℕ) → m ≡ r → Ready l s count k bytes words m
  same_ready m q = rw q z

  own_fields : 3 * cells_of l k ≤ fields_from (base l) count k
  own_fields = omega (arith, fields_next (base l) count k z.below)

  -- after a correction
  pub corrected_end : (e d : List Float) → Ended (fields_from (base l) count k) e → Corrected l bytes count k e d → Ended (fields_from (base l) count k) d
  corrected_end e d n p = end_kept (fields_from (base l) count k) (fields_from (base l) count k) (omega arith) p.beyond p.long n

  room_own : 3 * cells_of l k ≤ r
  room_own = omega (arith, fields_next (base l) count k z.below, z.roomy)

  -- as the code has the level: g, ls and cs are what its calls give
  module _ {g : Sides} (eg : g ≡ sides_in l k) where
    same_sides : g ≡ sides_of l k
    same_sides = eg ∙ sides_here

    pub clear_fit : Fit g
    clear_fit = rw same_sides fit_here

    pub clear_room : cells g ≤ r
    clear_room = omega (arith, ap cells same_sides, room_own)

    pub cleared : (e d : List Float) → length e ≡ r → d ≡ zeros g ++ drop (cells g) e → u_of (cells g) d ≡ zeros g
    cleared e d q p = (clear_put g [] e d (omega (arith, ap cells same_sides, room_own)) p).u

    -- the zero at the room's end, where u is cleared
    pub cleared_end : (e d : List Float) → length e ≡ r → Ended (fields_from (base l) count k) e → d ≡ zeros g ++ drop (cells g) e → Ended (fields_from (base l) count k) d
    cleared_end e d q n p =
        let put = clear_put g [] e d (omega (arith, ap cells same_sides, room_own)) p in
        end_kept (3 * cells g) (fields_from (base l) count k) (omega (arith, ap cells same_sides, own_fields)) put.beyond put.long n

    -- after a stroke, and for one
    pub stroke_end : (v e d : List Float) → Ended (fields_from (base l) count k) e → Put (cells g) (3 * cells g) v e d → Ended (fields_from (base l) count k) d
    stroke_end v e d n p = end_kept (3 * cells g) (fields_from (base l) count k) (omega (arith, ap cells same_sides, own_fields)) p.beyond p.long n

    pub level_end : {d : List Float} → Ended (fields_from (base l) count k) d → Ended (3 * cells g) d
    level_end n = end_less (3 * cells g) (fields_from (base l) count k) (omega (arith, ap cells same_sides, own_fields)) n

    module _ {ls : List ℕ} (el : ls ≡ part_in l k bytes) where
      same_labels : ls ≡ labels_of l bytes k
      same_labels = el ∙ labels_here

      labelled_here : length ls ≡ cells g
      labelled_here = ap length same_labels ∙ labels_long ∙ ap cells (sym same_sides)

      pub labels_few : length ls ≤ 32768
      labels_few = omega (arith, labelled_here, cells_most g clear_fit)

      pub level_asked : (d : List Float) → length d ≡ r → Level g ls d
      level_asked d q = record {
        sides = clear_fit;
        labelled = labelled_here;
        roomy = omega (arith, ap cells same_sides, room_own);
      }

      pub all_air : {es : List ℕ} → es ≡ air_from s k words → AirList g ls es
      unfolding air_at
      all_air ea =
          air_entries g ls (ltb (k + 1) count) clear_fit labelled_here
          (ea ∙ z.prepared.air k z.below ∙ ap₂ (air_of (ltb (k + 1) count)) (sym same_sides) (sym same_labels))

      pub corrected_quiet : (e d : List Float) → Corrected l bytes count k e d → Quiet g ls (u_of (cells g) d)
      corrected_quiet e d p =
          let there : Quiet (sides_of l k) (labels_of l bytes k) (u_of (cells_of l k) d) = rw p.u (quiet_corrected _ _) in
          rw (same_sides, same_labels) there

      module _ {cs : List ℕ} (ec : cs ≡ list_from s k words) where
        list_here : cs ≡ list_at (base l) (base_labels l bytes) count k
        list_here = ec ∙ z.prepared.lists k z.below

        pub band_listed : k + 1 < count → cs ≡ entries_where g ls (in_band g ls)
        unfolding list_at list_of smoothed
        band_listed h =
            list_here ∙ ap (λ b. list_of b (sides_of l k) (labels_of l bytes k)) (lt-ltb (k + 1) count h)
            ∙ ap₂ (λ m c. entries_where m c (in_band m c)) (sym same_sides) (sym same_labels)

        pub air_listed : count ≤ k + 1 → cs ≡ entries_where g ls (is_air ls)
        unfolding list_at list_of smoothed
        air_listed h =
            list_here ∙ ap (λ b. list_of b (sides_of l k) (labels_of l bytes k)) (le-ltb (k + 1) count h)
            ∙ ap₂ (λ m c. entries_where m c (is_air c)) (sym same_sides) (sym same_labels)

        -- the coarsest level
        pub cycle_last : (e d x : List Float) → length e ≡ r → count ≤ k + 1 → d ≡ zeros g ++ drop (cells g) e
            → Put (cells g) (3 * cells g) (coarsest g ls (b_of (cells g) d)) d x → Cycled l bytes count k e x
        unfolding cycle
        cycle_last e d x q h p c =
            let none : count - 1 - k ≡ 0 = omega (arith, z.below) in
            let first = clear_put g ls e d (omega (arith, ap cells same_sides, room_own)) p in
            let here : Put (cells g) (3 * cells g) (coarsest g ls (b_of (cells g) e)) e x = put_then (cells g) (3 * cells g) (zeros g) (λ b u. coarsest g ls b) first c in
            let there : Put (cells_of l k) (3 * cells_of l k) (coarsest (sides_of l k) (labels_of l bytes k) (b_of (cells_of l k) e)) e x = rw (same_sides, same_labels) at here in
            put_later (cells_of l k) (3 * cells_of l k) (fields_from (base l) count k) (cycle_from l bytes count k (b_of (cells_of l k) e)) e x
            (omega (arith, fields_next (base l) count k z.below))
            (put_as (cells_of l k) (3 * cells_of l k) (coarsest (sides_of l k) (labels_of l bytes k) (b_of (cells_of l k) e)) (cycle_from l bytes count k (b_of (cells_of l k) e))
            (ap (λ j. cycle k j (sides_of l k) (labels_of l bytes k) (b_of (cells_of l k) e)) (sym none)) there)

        -- any other
        cycle_next : (b : List Float) → k + 1 < count
            → rising k (sides_of l k) (labels_of l bytes k) b (correction l bytes count k b (downstroke k (sides_of l k) (labels_of l bytes k) b)) ≡ cycle_from l bytes count k b
        unfolding cycle rising upstroke
        cycle_next b h =
            let some : suc (count - 1 - (k + 1)) ≡ count - 1 - k = omega arith in
            let G = sides_of l k in
            let L = labels_of l bytes k in
            let u = downstroke k (sides_of l k) (labels_of l bytes k) b in
            let w = restricted G L (residue G L b u) in
            ap (λ j. rising k G L b (corrected G L u (cycle j (count - 1 - (k + 1)) (sides_of l (k + 1)) (labels_of l bytes (k + 1)) w))) (add-one k)
            ∙ ap₂ (λ m c. rising k G L b (corrected G L u (cycle (suc k) (count - 1 - (k + 1)) m c w))) (sides_next (base l) k) (labels_next (base l) (base_labels l bytes) k)
            ∙ ap (λ j. cycle k j G L b) some

        pub cycle_more : (e d p q x : List Float) → length e ≡ r → k + 1 < count → d ≡ zeros g ++ drop (cells g) e
            → Put (cells g) (3 * cells g) (downstroke k g ls (b_of (cells g) d)) d p → Corrected l bytes count k p q
            → Put (cells g) (3 * cells g) (rising k g ls (b_of (cells g) q) (u_of (cells g) q)) q x → Cycled l bytes count k e x
        cycle_more e d p q x a h c₁ c₂ c₃ c₄ =
            let n = cells_of l k in
            let m = fields_from (base l) count k in
            let G = sides_of l k in
            let L = labels_of l bytes k in
            let all : 3 * cells_of l k ≤ fields_from (base l) count k = omega (arith, fields_next (base l) count k z.below) in
            let first = clear_put g ls e d (omega (arith, ap cells same_sides, room_own)) c₁ in
            let here : Put (cells g) (3 * cells g) (downstroke k g ls (b_of (cells g) e)) e p = put_then (cells g) (3 * cells g) (zeros g) (λ b u. downstroke k g ls b) first c₂ in
            let there : Put (cells_of l k) (3 * cells_of l k) (downstroke k (sides_of l k) (labels_of l bytes k) (b_of (cells_of l k) e)) e p = rw (same_sides, same_labels) at here in
            let last : Put (cells_of l k) (3 * cells_of l k) (rising k (sides_of l k) (labels_of l bytes k) (b_of (cells_of l k) q) (u_of (cells_of l k) q)) q x =
            rw (same_sides, same_labels) at c₄ in
            put_as n m _ _ (cycle_next (b_of n e) h)
            (put_then n m _ (λ b u. rising k G L b u)
            (put_then n m _ (λ b u. correction l bytes count k b u) (put_later n (3 * n) m _ e p all there) c₃)
            (put_later n (3 * n) m _ q x all last))

  -- ---- the next level
  module _ (more : k + 1 < count) where
    next_ready : Ready l s count (k + 1) bytes words (r - 3 * cells_of l k)
    next_ready = record { prepared = z.prepared; below = more; roomy = omega (arith, fields_next (base l) count k z.below, z.roomy) }

    fields_two : 3 * cells_of l k + 3 * cells_of l (k + 1) ≤ fields_from (base l) count k
    fields_two = omega (arith, fields_next (base l) count k z.below, fields_next (base l) count (k + 1) more)

-- ---- the correction
corrected_length : (g : Sides) (ls : List ℕ) (u w : List Float) → length (corrected g ls u w) ≡ cells g
unfolding corrected
corrected_length g ls u w = in_air_length g ls _

summed_length : (g : Sides) (ls : List ℕ) (w : List Float) → length (summed g ls w) ≡ cells g
unfolding summed
summed_length g ls w = length_tab (cells g) _

-- the next level's u, from the b that it was given, corrects this level's u
module _ (g h : Sides) (ls : List ℕ) (m : ℕ) (f : List Float → List Float) (e d c x : List Float) (room : 3 * cells g + 3 * cells h ≤ length e) (two : 3 * cells h ≤ m) where
  correct_home : Lowered g h ls e d → Put (cells h) m (f (b_of (cells h) (drop (3 * cells g) d))) (drop (3 * cells g) d) c
      → x ≡ corrected_room g h ls (take (3 * cells g) d ++ c)
      → Put (cells g) (3 * cells g + m) (corrected g ls (u_of (cells g) e) (f (restricted g ls (residue g ls (b_of (cells g) e) (u_of (cells g) e))))) e x
  correct_home low p q =
      let n = cells g in
      let v = corrected g ls (u_of (cells g) e) (f (restricted g ls (residue g ls (b_of (cells g) e) (u_of (cells g) e)))) in
      let top = take (3 * cells g) d in
      let y = take (3 * cells g) d ++ c in
      let top-long : length (take (3 * cells g) d) ≡ 3 * cells g = length-take-le (3 * n) d (omega (arith, low.long)) in
      let old : u_of (cells g) (take (3 * cells g) d ++ c) ≡ u_of (cells g) e =
      take-append-le n top c (omega arith) ∙ take-take n (3 * n) d (omega arith) ∙ low.u in
      let tail : drop (3 * cells g) (take (3 * cells g) d ++ c) ≡ c = drop_at top c (3 * n) top-long in
      let new : take (cells h) (drop (3 * cells g) (take (3 * cells g) d ++ c)) ≡ f (restricted g ls (residue g ls (b_of (cells g) e) (u_of (cells g) e))) =
      ap (take (cells h)) tail ∙ p.u ∙ ap f low.below in
      let w = f (restricted g ls (residue g ls (b_of (cells g) e) (u_of (cells g) e))) in
      let mid = take (cells g) (drop (cells g) (take (3 * cells g) d ++ c)) in
      let sums = summed g ls (f (restricted g ls (residue g ls (b_of (cells g) e) (u_of (cells g) e)))) in
      let laid-here : Laid (cells g) (corrected g ls (u_of (cells g) e) (f (restricted g ls (residue g ls (b_of (cells g) e) (u_of (cells g) e)))))
      (take (cells g) (drop (cells g) (take (3 * cells g) d ++ c))) (summed g ls (f (restricted g ls (residue g ls (b_of (cells g) e) (u_of (cells g) e)))))
      (drop (3 * cells g) (take (3 * cells g) d ++ c)) x = record {
        is = q ∙ ap₂ (λ u w. corrected g ls u w ++ (take (cells g) (drop (cells g) (take (3 * cells g) d ++ c)) ++ (summed g ls w ++ drop (3 * cells g) (take (3 * cells g) d ++ c)))) old new;
        u_length = corrected_length g ls _ _;
        b_length = length-take-le n (drop n y) (omega (arith, length-drop n y, length-append top c, top-long));
        t_length = summed_length g ls _;
      } in
      let rest : drop (3 * cells g) x ≡ drop (3 * cells g) (take (3 * cells g) d ++ c) = laid_follows laid-here in
      record {
        u = laid_u laid-here;
        b = laid_b laid-here ∙ part_first top c n n (omega arith) ∙ part_take n n (3 * n) d (omega arith) ∙ low.b;
        beyond =
            later (3 * n) (3 * n + m) x y (omega arith) rest ∙ sym (drop-drop m (3 * n) y) ∙ ap (drop m) tail ∙ p.beyond ∙ drop-drop m (3 * n) d
            ∙ later (3 * n + 3 * cells h) (3 * n + m) d e (omega arith) low.beyond;
        long = omega (arith, laid_long laid-here, length-drop (3 * n) y, length-append top c, top-long, p.long, length-drop (3 * n) d, low.long);
      }

-- ---- a correction, with g and ls, h and lc what the code has of this level and the next
module _ {l : Levels} {s : Lists} {count k : ℕ} {bytes words : List ℕ} {r : ℕ} (z : Ready l s count k bytes words r) (more : k + 1 < count) where
  pub labels_asked_next : LabelsAt l (k + 1) (length bytes)
  labels_asked_next = labels_asked (next_ready z more)

  module _ {g h : Sides} {ls lc : List ℕ} (eg : g ≡ sides_in l k) (eh : h ≡ sides_in l (k + 1)) (el : ls ≡ part_in l k bytes) (ec : lc ≡ part_in l (k + 1) bytes) where
    g_is : g ≡ sides_of l k
    g_is = same_sides z eg

    h_is : h ≡ sides_of l (k + 1)
    h_is = same_sides (next_ready z more) eh

    ls_is : ls ≡ labels_of l bytes k
    ls_is = same_labels z eg el

    lc_is : lc ≡ labels_of l bytes (k + 1)
    lc_is = same_labels (next_ready z more) eh ec

    pub two_levels : TwoLevels g h ls lc
    two_levels = record {
      fits = clear_fit z eg;
      next = h_is ∙ sides_next (base l) k ∙ ap halved (sym g_is);
      all = labelled_here z eg el;
      labels = lc_is ∙ labels_next (base l) (base_labels l bytes) k ∙ ap₂ coarse (sym g_is) (sym ls_is);
    }

    pub two_rooms : 3 * cells g + 3 * cells h ≤ r
    two_rooms = omega (arith, ap cells g_is, ap cells h_is, fields_two z more, z.roomy)

    pub lent_long : (d : List Float) → length d ≡ r → 3 * length ls ≤ length d
    lent_long d q = omega (arith, two_levels.all, two_rooms)

    pub lent_ready : (d : List Float) → length d ≡ r → Ready l s count (k + 1) bytes words (length (mid_of (3 * length ls) (length d - 3 * length ls) d))
    lent_ready d q =
        let long : length (mid_of (3 * length ls) (length d - 3 * length ls) d) ≡ r - 3 * cells_of l k =
        ap length (lent_is (3 * length ls) d [] (lent_long d q)) ∙ length-drop (3 * length ls) d ∙ omega (arith, two_levels.all, ap cells g_is) in
        rw long (next_ready z more)

    -- the zero at the end of what is lent, once the residual is restricted
    pub lent_end : (e d : List Float) → length e ≡ r → Ended (fields_from (base l) count k) e → Lowered g h ls e d
        → Ended (fields_from (base l) count (k + 1)) (mid_of (3 * length ls) (length d - 3 * length ls) d)
    lent_end e d q n low =
        let a : 3 * length ls ≡ 3 * cells_of l k = omega (arith, two_levels.all, ap cells g_is) in
        let both : fields_from (base l) count k ≡ 3 * length ls + fields_from (base l) count (k + 1) = omega (arith, fields_next (base l) count k z.below) in
        let here : Ended (fields_from (base l) count k) d = end_kept (3 * cells g + 3 * cells h) (fields_from (base l) count k) (omega (arith, ap cells g_is, ap cells h_is, fields_two z more)) low.beyond low.long n in
        rw (lent_is (3 * length ls) d [] (lent_long d (low.long ∙ q))) (end_lent (3 * length ls) (fields_from (base l) count (k + 1)) d (rw both at here))

    pub home_room : (d c : List Float) → length d ≡ r → length c ≡ length (mid_of (3 * length ls) (length d - 3 * length ls) d)
        → 3 * cells g + 3 * cells h ≤ length (put_mid (3 * length ls) (length d - 3 * length ls) d c)
    home_room d c q p = omega (arith, same_len_mid (3 * length ls) (length d - 3 * length ls) d c p, two_rooms)

    -- the next level's u is +0 off air
    pub home_quiet : (d c : List Float) → length d ≡ r → Cycled l bytes count (k + 1) (mid_of (3 * length ls) (length d - 3 * length ls) d) c
        → Quiet h lc (take (cells h) (drop (3 * cells g) (put_mid (3 * length ls) (length d - 3 * length ls) d c)))
    home_quiet d c q p =
        let inside : 3 * length ls ≤ length d = lent_long d q in
        let a : 3 * length ls ≡ 3 * cells g = omega (arith, two_levels.all) in
        let here : drop (3 * cells g) (put_mid (3 * length ls) (length d - 3 * length ls) d c) ≡ c =
        ap (drop (3 * cells g)) (home_is (3 * length ls) d c inside) ∙ drop_at (take (3 * length ls) d) c (3 * cells g) (length-take-le (3 * length ls) d inside ∙ a) in
        let u : take (cells h) (drop (3 * cells g) (put_mid (3 * length ls) (length d - 3 * length ls) d c))
        ≡ cycle_from l bytes count (k + 1) (b_of (cells_of l (k + 1)) (mid_of (3 * length ls) (length d - 3 * length ls) d)) =
        ap (take (cells h)) here ∙ ap (λ n. take n c) (ap cells h_is) ∙ p.u in
        rw u (rw (h_is, lc_is) (quiet_cycle (k + 1) (count - 1 - (k + 1)) (sides_of l (k + 1)) (labels_of l bytes (k + 1)) _))

    pub corrected_is : (e d c x : List Float) → length e ≡ r → Lowered g h ls e d
        → Cycled l bytes count (k + 1) (mid_of (3 * length ls) (length d - 3 * length ls) d) c
        → x ≡ corrected_room g h ls (put_mid (3 * length ls) (length d - 3 * length ls) d c) → Corrected l bytes count k e x
    corrected_is e d c x q low p o =
        let a : 3 * length ls ≡ 3 * cells_of l k = omega (arith, two_levels.all, ap cells g_is) in
        let inside : 3 * length ls ≤ length d = lent_long d (low.long ∙ q) in
        let lent : mid_of (3 * length ls) (length d - 3 * length ls) d ≡ drop (3 * cells_of l k) d = lent_is (3 * length ls) d c inside ∙ ap (λ j. drop j d) a in
        let home : put_mid (3 * length ls) (length d - 3 * length ls) d c ≡ take (3 * cells_of l k) d ++ c = home_is (3 * length ls) d c inside ∙ ap (λ j. take j d ++ c) a in
        let p' : Cycled l bytes count (k + 1) (drop (3 * cells_of l k) d) c = rw lent at p in
        let o' : x ≡ corrected_room g h ls (take (3 * cells_of l k) d ++ c) = o ∙ ap (corrected_room g h ls) home in
        let o'' : x ≡ corrected_room (sides_of l k) (sides_of l (k + 1)) (labels_of l bytes k) (take (3 * cells_of l k) d ++ c) = rw (g_is, h_is, ls_is) at o' in
        let low' : Lowered (sides_of l k) (sides_of l (k + 1)) (labels_of l bytes k) e d = rw (g_is, h_is, ls_is) at low in
        let both : fields_from (base l) count k ≡ 3 * cells_of l k + fields_from (base l) count (k + 1) = fields_next (base l) count k z.below in
        rw both
        (correct_home (sides_of l k) (sides_of l (k + 1)) (labels_of l bytes k) (fields_from (base l) count (k + 1)) (cycle_from l bytes count (k + 1)) e d c x
        (omega (arith, fields_two z more, z.roomy)) (omega (arith, fields_next (base l) count (k + 1) more)) low' p' o'')

pub ruleset cycles = (rules, labels_asked, list_asked, air_asked, clear_fit, clear_room, labels_asked_next, two_levels, two_rooms, lent_long, cycle_last)
