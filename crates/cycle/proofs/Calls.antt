-- What a caller of `cycle` needs: that the rooms which `all_labels` and `all_lists` leave are prepared, what a room is
-- with a zero at its end, and that the promise is one result. Assumes nothing.
use Prim.Native.Nat.{ℕ, zero, suc, ◌+◌, ◌-◌, ◌*◌, ◌≤◌, ◌<◌}
use mathlib.Core.Path.{◌≡◌, refl, sym, ap, subst, ◌∙◌}
use mathlib.Core.Logic.{⊎_elim}
use mathlib.Core.List.{List, ◌++◌}
use native.Mathlib.Nat.{le_of_suc-le-suc, eq-or-lt_of_le}
use native.Mathlib.Omega.{arith}
use lib.Dec.{ltb}
use lib.ListN.{length, set, take, drop, length-append, length-set}
use lib.Seq.{take_at, drop_at, take-length, take-take, take-set-le, get_or-set_same}
use lib.Ieee.{Float, nan}
use Rattle.laws.specs.Binary64.{+0}
use Rattle.laws.proofs.Fill.{part_take}
use Rattle.method.specs.declared.Sides.{Sides}
use Rattle.method.specs.Cast.{cells}
use Rattle.method.specs.Transfers.{value}
use Rattle.theory.specs.Levels.{sides_at, labels_at, air_before}
use Rattle.theory.specs.Sides.{Fit}
use Rattle.theory.proofs.Sides.{fits}
use Rattle.theory.proofs.Sizes.{cells_of_six}
use Rattle.levels.specs.Rooms.{written}
use Rattle.levels.specs.Levels.{base, Levels}
use Rattle.bands.specs.Lists.{list_of, left_of}
use Rattle.levels.specs.AllLabels.{LabelsAsked, all_labels}
use Rattle.bands.specs.AllLists.{base_labels, list_at, air_at, lists_before, AllListed, ListsAsked, Lists, row_in}
use Rattle.levels.proofs.Calls.{part_left}
use Rattle.bands.proofs.Calls.{lists_asked, row_start, row_swept, row_air}
use Rattle.levels.proofs.Labelled.{room_enough}
use Rattle.smooth.specs.Fields.{u_of, b_of}
use Rattle.cycle.specs.Strokes.{AirList, Ended, Put}
use Rattle.cycle.proofs.Air.{air_entries}
use Rattle.cycle.proofs.Laws.{end_kept}
use Rattle.cycle.proofs.Levels.{fields_all}
use Rattle.cycle.specs.Rooms.{list_from, air_from, AirAt, Prepared, fields_from, Ready, cells_of, Cycled}

-- ---- each level's list, in the room that `all_lists` leaves
module _ (g : Sides) (ls : List ℕ) (count : ℕ) where
  abbrev before : ℕ → List ℕ
  before k = lists_before g ls count k

  abbrev here : ℕ → List ℕ
  here k = air_at g ls count k

  lists_inside : (m k : ℕ) → k < m → length (before k) + length (here k) ≤ length (before m)
  unfolding lists_before
  lists_inside zero k h = absurd (omega arith)
  lists_inside (suc m) k h = ⊎_elim
      (λ e. rw e (omega (arith, length-append (before m) (here m))))
      (λ l. omega (arith, length-append (before m) (here m), lists_inside m k l))
      (eq-or-lt_of_le (le_of_suc-le-suc h))

  -- what is swept stands first
  swept_first : (k : ℕ) → take (length (list_at g ls count k)) (here k) ≡ list_at g ls count k
  unfolding list_at air_at
  swept_first k = take_at (list_of (ltb (k + 1) count) (sides_at g k) (labels_at g ls k)) (left_of (ltb (k + 1) count) (sides_at g k) (labels_at g ls k)) _ refl

  swept_within : (k : ℕ) → length (list_at g ls count k) ≤ length (here k)
  unfolding list_at air_at
  swept_within k = omega (
    arith,
    length-append (list_of (ltb (k + 1) count) (sides_at g k) (labels_at g ls k)) (left_of (ltb (k + 1) count) (sides_at g k) (labels_at g ls k)),
  )

  abbrev Part : ℕ → ℕ → Type 0
  Part m k = take (length (here k)) (drop (length (before k)) (before m)) ≡ here k

  list_part : (m k : ℕ) → k < m → Part m k
  unfolding lists_before
  list_part zero k h = absurd (omega arith)
  list_part (suc m) k h = ⊎_elim
      (λ e. subst (Part (suc m)) (sym e) (ap (take (length (here m))) (drop_at (before m) (here m) (length (before m)) refl) ∙ take-length (here m)))
      (λ l. part_left (before m) (here m) (length (before k)) (length (here k)) (lists_inside m k l) ∙ list_part m k l)
      (eq-or-lt_of_le (le_of_suc-le-suc h))

-- ---- THE ROOMS ARE PREPARED
module _ (l : Levels) (count : ℕ) (bytes e words : List ℕ) (s : Lists) (a : ListsAsked l count bytes (length e)) (least : 1 ≤ count)
    (long : length words ≡ length e) (p : AllListed (base l) (base_labels l bytes) count e s words) where
  air_at_lem : (k : ℕ) → k < count → (row_in s k).air ≡ length (air_at (base l) (base_labels l bytes) count k)
  air_at_lem k h = row_air p k a.most h

  words_are : words ≡ lists_before (base l) (base_labels l bytes) count count ++ drop (0 + length (lists_before (base l) (base_labels l bytes) count count)) e
  unfolding written
  words_are = p.room

  words_long : length (lists_before (base l) (base_labels l bytes) count count) ≤ length words
  words_long = omega (
    arith,
    ap length words_are,
    length-append (lists_before (base l) (base_labels l bytes) count count) (drop (0 + length (lists_before (base l) (base_labels l bytes) count count)) e),
  )

  air_part : (k : ℕ) → k < count → take (length (air_at (base l) (base_labels l bytes) count k)) (drop ((row_in s k).start) words) ≡ air_at (base l) (base_labels l bytes) count k
  air_part k h =
      ap (λ b. take (length (air_at (base l) (base_labels l bytes) count k)) (drop b words)) (row_start p k a.most h)
      ∙ ap (λ x. take (length (air_at (base l) (base_labels l bytes) count k)) (drop (length (lists_before (base l) (base_labels l bytes) count k)) x)) words_are
      ∙ part_left (lists_before (base l) (base_labels l bytes) count count) (drop (0 + length (lists_before (base l) (base_labels l bytes) count count)) e)
      (length (lists_before (base l) (base_labels l bytes) count k)) (length (air_at (base l) (base_labels l bytes) count k)) (lists_inside (base l) (base_labels l bytes) count count k h)
      ∙ list_part (base l) (base_labels l bytes) count count k h

  swept_part : (k : ℕ) → k < count → take (length (list_at (base l) (base_labels l bytes) count k)) (drop ((row_in s k).start) words) ≡ list_at (base l) (base_labels l bytes) count k
  swept_part k h =
      sym (take-take (length (list_at (base l) (base_labels l bytes) count k)) (length (air_at (base l) (base_labels l bytes) count k)) (drop ((row_in s k).start) words) (swept_within (base l) (base_labels l bytes) count k))
      ∙ ap (take (length (list_at (base l) (base_labels l bytes) count k))) (air_part k h) ∙ swept_first (base l) (base_labels l bytes) count k

  pub prepared : Prepared l s count bytes words
  unfolding list_from air_from
  prepared = record {
    fit = a.fit;
    laid = a.laid;
    least = least;
    most = a.most;
    inside = room_enough (base l) (length bytes) count a.fit a.full a.most;
    labels = a.labels;
    ends = λ k h. omega (arith, row_start p k a.most h, air_at_lem k h, lists_inside (base l) (base_labels l bytes) count count k h, words_long);
    within = λ k h. omega (arith, row_swept p k a.most h, air_at_lem k h, swept_within (base l) (base_labels l bytes) count k);
    lists = λ k h. ap (λ n. take n (drop ((row_in s k).start) words)) (row_swept p k a.most h) ∙ swept_part k h;
    air = λ k h. ap (λ n. take n (drop ((row_in s k).start) words)) (air_at_lem k h) ∙ air_part k h;
  }

-- the same from the labels as `all_labels` was given and left them
pub prepared_from : (l : Levels) (count : ℕ) (ls old bytes e words : List ℕ) (s : Lists) → LabelsAsked l count (length ls) (length old)
    → bytes ≡ written old 0 (all_labels (base l) ls count) → length bytes ≡ length old → air_before (base l) ls count ≤ length e → length words ≡ length e
    → AllListed (base l) (base_labels l bytes) count e s words → Prepared l s count bytes words
prepared_from l count ls old bytes e words s a b k room long p = prepared l count bytes e words s (lists_asked l count ls old bytes a b (length e) k room) a.least long p

-- level 0 of what is prepared
pub ready_first : (l : Levels) (s : Lists) (count : ℕ) (bytes words : List ℕ) (r : ℕ) → Prepared l s count bytes words → fields_from (base l) count 0 ≤ r
    → Ready l s count 0 bytes words r
ready_first l s count bytes words r p h = record { prepared = p; below = omega (arith, p.least); roomy = h }

-- and the list of all its air
pub first_air_asked : (l : Levels) (s : Lists) (count : ℕ) (bytes words : List ℕ) → Prepared l s count bytes words → AirAt s 0 (length words)
first_air_asked l s count bytes words p = record { below = omega arith; inside = p.ends 0 (omega (arith, p.least)) }

pub first_air : (l : Levels) (s : Lists) (count : ℕ) (bytes words : List ℕ) → Prepared l s count bytes words → length (base_labels l bytes) ≡ cells (base l)
    → {es : List ℕ} → es ≡ air_from s 0 words → AirList (base l) (base_labels l bytes) es
unfolding air_at sides_at labels_at
first_air l s count bytes words p len q = air_entries (base l) (base_labels l bytes) (ltb (0 + 1) count) p.fit len (q ∙ p.air 0 (omega (arith, p.least)))

-- how much room six levels' fields take
pub fields_most : (g : Sides) (count : ℕ) → Fit g → count ≤ 6 → fields_from g count 0 ≤ 6 * cells g + 15
fields_most g count z h = omega (arith, fields_all g count, cells_of_six g (fits g z) count h)

-- ---- a zero set at the room's end: it is there, and all before it stays
module _ (e : List Float) where
  abbrev ending : List Float
  ending = set e (length e - 1) +0

  pub zero_end : (m : ℕ) → m < length e → Ended m ending
  zero_end m h =
      let last : length (set e (length e - 1) +0) - 1 ≡ length e - 1 = ap (λ n. n - 1) (length-set e (length e - 1) +0) in
      record { spare = omega (arith, length-set e (length e - 1) +0); none = ap (value ending) last ∙ get_or-set_same e (length e - 1) +0 nan (omega arith) }

  pub zero_part : (k n : ℕ) → k + n < length e → take n (drop k ending) ≡ take n (drop k e)
  zero_part k n h =
      sym (part_take k n (length e - 1) ending (omega arith)) ∙ ap (λ s. take n (drop k s)) (take-set-le (length e - 1) e (length e - 1) +0 (omega arith))
      ∙ part_take k n (length e - 1) e (omega arith)

-- and a cycle keeps it
pub cycled_end : (l : Levels) (bytes : List ℕ) (count k : ℕ) (e x : List Float) → Ended (fields_from (base l) count k) e → Cycled l bytes count k e x
    → Ended (fields_from (base l) count k) x
cycled_end l bytes count k e x n p = end_kept (fields_from (base l) count k) (fields_from (base l) count k) (omega arith) p.beyond p.long n

-- ---- THE PROMISE IS ONE RESULT, as far as it goes: u, b, all beyond, and the length
module _ {n m : ℕ} {v e x y : List Float} where
  pub put_one : Put n m v e x → Put n m v e y → (u_of n x ≡ u_of n y) × (b_of n x ≡ b_of n y) × (drop m x ≡ drop m y) × (length x ≡ length y)
  put_one p q = (p.u ∙ sym q.u, p.b ∙ sym q.b, p.beyond ∙ sym q.beyond, p.long ∙ sym q.long)

pub cycled_one : (l : Levels) (bytes : List ℕ) (count k : ℕ) (e x y : List Float) → Cycled l bytes count k e x → Cycled l bytes count k e y
    → (u_of (cells_of l k) x ≡ u_of (cells_of l k) y) × (b_of (cells_of l k) x ≡ b_of (cells_of l k) y)
    × (drop (fields_from (base l) count k) x ≡ drop (fields_from (base l) count k) y) × (length x ≡ length y)
cycled_one l bytes count k e x y p q = put_one p q
