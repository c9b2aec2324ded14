-- Laws of all levels' lists: one after the other, with room for the next. Assumes nothing.
use Prim.Native.Nat.{ℕ, zero, suc, ◌+◌, ◌-◌, ◌≤◌, ◌<◌}
use mathlib.Core.Path.{◌≡◌, refl, ap, ap₂, ◌∙◌}
use mathlib.Core.List.{List, ◌++◌}
use native.Mathlib.Numerals.{add-one}
use native.Mathlib.Omega.{arith}
use borrow.Author.Rules.{rules}
use lib.Dec.{ltb}
use lib.ListN.{length, take, drop, set, replicate, length-append}
use Rattle.method.specs.declared.Sides.{Sides}
use Rattle.method.specs.Cast.{cells, interior}
use Rattle.theory.specs.Levels.{sides_at, labels_at, cells_before, air_before}
use Rattle.theory.specs.Sides.{Fit}
use Rattle.theory.proofs.Sizes.{fit_at}
use Rattle.bands.specs.declared.lists.LevelList.{LevelList}
use Rattle.levels.specs.Rooms.{written}
use Rattle.levels.specs.Levels.{Levels, base, start_in, sides_in}
use Rattle.bands.specs.Lists.{list_of, air_of, LevelListed}
use Rattle.bands.specs.AllLists.{Lists, list_at, air_at, lists_before, list_row, no_list, lists_to, AllListed, part_in, base_labels, list_in, air_in, LevelAsked, ListsAsked}
use Rattle.levels.proofs.Starts.{firsts_none, firsts_more, start_of, sides_of_lem}
use Rattle.levels.proofs.Rooms.{written_none, length_written, written_on}
use Rattle.levels.proofs.Labelled.{room_enough}
use Rattle.bands.proofs.Chosen.{air_le}

-- ---- one level
module _ (l : Levels) (k a : ℕ) (bytes : List ℕ) (words : ℕ) (h : LevelAsked l k a bytes words) (g : Sides) (e : g ≡ sides_in l k) where
  pub level_fit : Fit g
  level_fit = rw e h.fit

  module _ (n : ℕ) (q : n ≡ cells g) where
    pub level_end : start_in l k + n ≤ length bytes
    level_end = omega (arith, h.inside, ap cells e)

    abbrev cut : List ℕ
    cut = take (start_in l k + n - start_in l k) (drop (start_in l k) bytes)

    cut_is : cut ≡ part_in l k bytes
    unfolding part_in
    cut_is = let w : start_in l k + n - start_in l k ≡ cells (sides_in l k) = omega (arith, ap cells e) in ap (λ m. take m (drop (start_in l k) bytes)) w

    pub level_room : a + interior g cut ≤ words
    level_room = rw (cut_is, e) h.room

    module _ (count : ℕ) (r : LevelList) (v s : List ℕ) where
      pub level_lists : LevelListed v a (list_of (ltb (k + 1) count) g cut) (air_of (ltb (k + 1) count) g cut) r s → LevelListed v a (list_in l count bytes k) (air_in l count bytes k) r s
      unfolding list_in air_in
      level_lists p = rw (← e, ← cut_is) p

pub ruleset levelling = (rules, level_fit, level_end, level_room, level_lists)

-- ---- what has been gathered of the first k levels, and the place after it
pub record Gathering (g : Sides) (ls : List ℕ) (count : ℕ) (e : List ℕ) (k : ℕ) (lists : Lists) (next : ℕ) (s : List ℕ) : Type 0 where
  pub are : lists ≡ lists_to g ls count k
  pub after : next ≡ length (lists_before g ls count k)
  pub room : s ≡ written e 0 (lists_before g ls count k)

module _ (g : Sides) (ls : List ℕ) (count : ℕ) where
  before_le : (k : ℕ) → length (lists_before g ls count k) ≤ air_before g ls k
  unfolding lists_before air_before air_at
  before_le zero = omega arith
  before_le (suc k) = omega (
    arith,
    before_le k,
    length-append (lists_before g ls count k) (air_at g ls count k),
    air_le (ltb (k + 1) count) (sides_at g k) (labels_at g ls k),
  )

  air_grows : (k m : ℕ) → air_before g ls k ≤ air_before g ls (m + k)
  unfolding air_before
  air_grows k zero = let q : 0 + k ≡ k = omega arith in rw q (omega arith)
  air_grows k (suc m) = let q : suc m + k ≡ suc (m + k) = omega arith in rw q (omega (arith, air_grows k m))

  air_up_to : (k m : ℕ) → k ≤ m → air_before g ls k ≤ air_before g ls m
  air_up_to k m h = let q : m - k + k ≡ m = omega arith in rw q at (air_grows k (m - k))

  pub gathering_none : (e : List ℕ) → Gathering g ls count e 0 (replicate 6 no_list) 0 e
  unfolding lists_to lists_before
  gathering_none e = record { are = firsts_none no_list (list_row g ls count); after = refl; room = written_none e 0 }

  row_is : (k a : ℕ) (n : LevelList) (v s : List ℕ) → a ≡ length (lists_before g ls count k) → LevelListed v a (list_at g ls count k) (air_at g ls count k) n s → n ≡ list_row g ls count k
  unfolding list_row
  row_is k a n v s e w = λ i. record { start = (w.start ∙ e) i; swept = w.count i; air = w.whole i }

  gathering_suc : (e v s : List ℕ) (k : ℕ) (lists : Lists) (next : ℕ) (n : LevelList) → k < 6 → Gathering g ls count e k lists next v → LevelListed v next (list_at g ls count k) (air_at g ls count k) n s
      → Gathering g ls count e (suc k) (set lists k n) (next + n.air) s
  unfolding lists_to lists_before
  gathering_suc e v s k lists next n h u w = record {
    are = rw (u.are, row_is k next n v s u.after w) (firsts_more no_list (list_row g ls count) k h);
    after = omega (arith, u.after, w.whole, length-append (lists_before g ls count k) (air_at g ls count k));
    room = w.room ∙ place;
  }
    where
      place : written v next (air_at g ls count k) ≡ written e 0 (lists_before g ls count k ++ air_at g ls count k)
      place = ap₂ (λ x n. written x n (air_at g ls count k)) u.room (omega (arith, u.after)) ∙ written_on e 0 (lists_before g ls count k) (omega arith) (air_at g ls count k)

-- ---- as the loop asks it: l is laid out for its own base, whose labels stand in the room of bytes
module _ (l : Levels) (count : ℕ) (bytes e : List ℕ) (a : ListsAsked l count bytes (length e)) where
  abbrev B : Sides
  B = base l

  abbrev L : List ℕ
  L = base_labels l bytes

  sides_are : (k : ℕ) → k < count → sides_in l k ≡ sides_at B k
  sides_are k h = ap (λ x. sides_in x k) a.laid ∙ sides_of_lem B k (omega (arith, a.most))

  start_is : (k : ℕ) → k < count → start_in l k ≡ cells_before B k
  start_is k h = ap (λ x. start_in x k) a.laid ∙ start_of B k (omega (arith, a.most))

  part_is : (k : ℕ) → k < count → part_in l k bytes ≡ labels_at B L k
  unfolding part_in
  part_is k h = ap₂ (λ g m. take (cells g) (drop m bytes)) (sides_are k h) (start_is k h) ∙ a.labels.at k h

  list_is : (k : ℕ) → k < count → list_in l count bytes k ≡ list_at B L count k
  unfolding list_in list_at
  list_is k h = ap₂ (list_of (ltb (k + 1) count)) (sides_are k h) (part_is k h)

  air_is : (k : ℕ) → k < count → air_in l count bytes k ≡ air_at B L count k
  unfolding air_in air_at
  air_is k h = ap₂ (air_of (ltb (k + 1) count)) (sides_are k h) (part_is k h)

  module _ (k : ℕ) (lists : Lists) (next : ℕ) (s : List ℕ) (u : Gathering B L count e k lists next s) where
    room_left : k ≤ count → length (lists_before B L count k) ≤ length e
    room_left h = omega (arith, before_le B L count k, air_up_to B L count k count h, a.room)

    gathering_same : k ≤ count → length s ≡ length e
    gathering_same h = ap length u.room ∙ length_written e 0 (lists_before B L count k) (omega (arith, room_left h))

    pub gathering_asks : k < count → LevelAsked l k next bytes (length s)
    unfolding air_before cells_before
    gathering_asks h =
        let m : cells_before B (suc k) ≤ length bytes = room_enough B (length bytes) (suc k) a.fit a.full (omega (arith, a.most)) in
        let w : air_before B L (suc k) ≤ length e = omega (arith, air_up_to B L count (suc k) count h, a.room) in
        let i : interior (sides_in l k) (part_in l k bytes) ≡ interior (sides_at B k) (labels_at B L k) = ap₂ interior (sides_are k h) (part_is k h) in
        record {
          below = omega (arith, a.most);
          fit = rw (sides_are k h) (fit_at B a.fit k);
          inside = omega (arith, start_is k h, ap cells (sides_are k h), m);
          room = omega (arith, u.after, before_le B L count k, gathering_same (omega arith), i, w);
        }

    module _ (n : LevelList) (s' : List ℕ) (h : k < count) (w : LevelListed s next (list_in l count bytes k) (air_in l count bytes k) n s') where
      pub gathering_more : (after : ℕ) → after ≡ next + n.air → Gathering B L count e (k + 1) (set lists k n) after s'
      gathering_more after q = rw (q, add-one) (gathering_suc B L count e s s' k lists next n (omega (arith, a.most)) u (rw (list_is k h, air_is k h) at w))

    pub gathering_end : k ≤ count → count ≤ k → AllListed B L count e lists s
    gathering_end h h' =
        let q : k ≡ count = omega arith in
        record { lists = u.are ∙ ap (lists_to B L count) q; room = u.room ∙ ap (λ n. written e 0 (lists_before B L count n)) q }

pub ruleset gatherings = (rules, gathering_none, gathering_asks, gathering_more, gathering_end)
