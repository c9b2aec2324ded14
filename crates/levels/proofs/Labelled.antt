-- Laws of module `labels`: each level's labels from those of the level before it, one after the other in one room.
-- Assumes nothing.
use Prim.Native.Nat.{ℕ, zero, suc, ◌+◌, ◌-◌, ◌≤◌, ◌<◌}
use mathlib.Core.Path.{◌≡◌, refl, sym, ap, ap₂, ◌∙◌}
use mathlib.Core.List.{List}
use native.Mathlib.Numerals.{add-one}
use native.Mathlib.Omega.{arith}
use borrow.Author.Rules.{rules}
use lib.ListN.{length, take, drop, set, get_or, length-append, length-set}
use lib.Seq.{get_or-take, length-take-le, take-suc, take_all}
use Rattle.laws.specs.Loops.{up}
use Rattle.laws.specs.Lists.{tab}
use Rattle.laws.proofs.Loops.{Up, up_none, up_more, up_end}
use Rattle.laws.proofs.Lists.{length_tab}
use Rattle.method.specs.declared.Sides.{Sides}
use Rattle.method.specs.Cast.{cells}
use Rattle.method.specs.Levels.{halved, coarse_label, coarse}
use Rattle.method.specs.Rooms.{byte_need}
use Rattle.theory.specs.Levels.{sides_at, labels_at, cells_before}
use Rattle.theory.specs.Sides.{Fit}
use Rattle.theory.proofs.Sides.{fits}
use Rattle.theory.proofs.Sizes.{halved_fit, fit_at, cells_of_six}
use Rattle.theory.proofs.Kept.{length_kept}
use Rattle.levels.specs.Rooms.{written}
use Rattle.levels.specs.declared.sides.Level.{Level}
use Rattle.levels.specs.Levels.{Levels, level_at, levels_of, base, no_level, start_in, sides_in}
use Rattle.levels.specs.AllLabels.{all_labels, coarsen_step, coarsened, next_step, CoarseAsked, LabelsAsked}
use Rattle.levels.proofs.Starts.{start_of, sides_of_lem}
use Rattle.levels.proofs.Rooms.{tab_last, written_none, length_written, written_on, written_more, part_before, part_last}

-- ---- one coarse cell, and one level
pub coarsen_at_is : (g : Sides) (a n c r : ℕ) (e : List ℕ) → r ≡ coarse_label g (take (a + n - a) (drop a e)) c → set e (a + n + c) r ≡ coarsen_step g a n c e
unfolding coarsen_step
coarsen_at_is g a n c r e h =
    let k : a + n - a ≡ n = omega arith in
    ap (set e (a + n + c)) (h ∙ ap (λ k. coarse_label g (take k (drop a e)) c) k)

module _ (g : Sides) (a n : ℕ) where
  coarsen_long : (c : ℕ) (e : List ℕ) → length (up (coarsen_step g a n) c e) ≡ length e
  unfolding up coarsen_step
  coarsen_long zero e = refl
  coarsen_long (suc c) e = length-set (up (coarsen_step g a n) c e) (a + n + c) _ ∙ coarsen_long c e

  pub coarsen_kept : (c : ℕ) (e s : List ℕ) → Up (coarsen_step g a n) e c s → length s ≡ length e
  coarsen_kept c e s u = ap length u.is ∙ coarsen_long c e

  coarsen_run : (e : List ℕ) (m c : ℕ) → a + n + m ≤ length e → c ≤ m
      → up (coarsen_step g a n) c e ≡ written e (a + n) (tab c (coarse_label g (take n (drop a e))))
  unfolding up coarsen_step tab
  coarsen_run e m zero h k = written_none e (a + n)
  coarsen_run e m (suc c) h k =
      let f : ℕ → ℕ = coarse_label g (take n (drop a e)) in
      let w : List ℕ = written e (a + n) (tab c f) in
      let p : a + n + c ≡ a + n + length (tab c f) = ap (λ k. a + n + k) (sym (length_tab c f)) in
      ap (λ x. set x (a + n + c) (coarse_label g (take n (drop a x)) c)) (coarsen_run e m c h (omega arith))
      ∙ ap (λ x. set w (a + n + c) (coarse_label g x c)) (part_before e a n (tab c f) (omega arith))
      ∙ ap (λ k. set w k (f c)) p
      ∙ written_more e (a + n) (tab c f) (f c) (omega (arith, length_tab c f))
      ∙ ap (written e (a + n)) (sym (tab_last c f))

pub coarsen_end : (g h : Sides) (a n m c : ℕ) (e s : List ℕ) → h ≡ halved g → n ≡ cells g → m ≡ cells h → a + cells g + cells (halved g) ≤ length e → c ≤ m → m ≤ c
    → Up (coarsen_step g a n) e c s → s ≡ coarsened g a e
unfolding coarse
coarsen_end g h a n m c e s p q r l u v w =
    let t : m ≡ cells (halved g) = r ∙ ap cells p in
    up_end m w u v ∙ rw (q, t) (coarsen_run g a (cells g) e (cells (halved g)) (cells (halved g)) l (omega arith))

pub coarse_asked : (g h : Sides) (n m c : ℕ) → Fit g → h ≡ halved g → n ≡ cells g → m ≡ cells h → c < m → CoarseAsked g h n c
coarse_asked g h n m c z p q r l = record { fine = z; next = p; count = q; inside = omega arith }

pub coarse_room : (g h : Sides) (a n m c : ℕ) (e s : List ℕ) → h ≡ halved g → n ≡ cells g → m ≡ cells h → a + cells g + cells (halved g) ≤ length e → c < m
    → Up (coarsen_step g a n) e c s → a + n + c < length s
coarse_room g h a n m c e s p q r l k u = omega (arith, coarsen_kept g a n c e s u, ap cells p)

pub next_fit : (g h : Sides) → Fit g → h ≡ halved g → Fit h
next_fit g h z e = rw e (halved_fit g z)

-- ---- level 0
pub record Copied (e ls : List ℕ) (i : ℕ) (s : List ℕ) : Type 0 where
  pub is : s ≡ written e 0 (take i ls)

module _ (e ls : List ℕ) where
  pub copied_none : Copied e ls 0 e
  copied_none = record { is = written_none e 0 }

  pub copied_long : (i : ℕ) (s : List ℕ) → length ls ≤ length e → i ≤ length ls → Copied e ls i s → length s ≡ length e
  copied_long i s h l c = ap length c.is ∙ length_written e 0 (take i ls) (omega (arith, length-take-le i ls l))

  pub copied_room : (i : ℕ) (s : List ℕ) → length ls ≤ length e → i < length ls → Copied e ls i s → i < length s
  copied_room i s h l c = omega (arith, copied_long i s h (omega arith) c)

  pub copied_more : (i : ℕ) (s : List ℕ) → length ls ≤ length e → i < length ls → Copied e ls i s → Copied e ls (i + 1) (set s i (get_or ls i 0))
  copied_more i s h l c =
      let q : i ≡ 0 + length (take i ls) = omega (arith, length-take-le i ls (omega arith)) in
      let p : set s i (get_or ls i 0) ≡ written e 0 (take (suc i) ls) =
      ap (λ x. set x i (get_or ls i 0)) c.is ∙ ap (λ k. set (written e 0 (take i ls)) k (get_or ls i 0)) q
      ∙ written_more e 0 (take i ls) (get_or ls i 0) (omega arith) ∙ ap (written e 0) (sym (take-suc ls i 0 l)) in
      record { is = rw add-one p }

  pub copied_end : (i : ℕ) (s : List ℕ) → length ls ≤ i → Copied e ls i s → s ≡ written e 0 ls
  copied_end i s h c = c.is ∙ ap (written e 0) (take_all i ls h)

pub all_long : (g : Sides) (ls : List ℕ) → length ls ≡ cells g → (k : ℕ) → length (all_labels g ls k) ≡ cells_before g k
unfolding all_labels cells_before
all_long g ls e zero = refl
all_long g ls e (suc k) = omega (arith, length-append (all_labels g ls k) (labels_at g ls k), all_long g ls e k, length_kept g ls e k)

pub room_enough : (g : Sides) (n k : ℕ) → Fit g → byte_need (cells g) ≤ n → k ≤ 6 → cells_before g k ≤ n
unfolding byte_need
room_enough g n k z h l = omega (arith, cells_of_six g (fits g z) k l)

-- a level more is written after those before it
module _ (g : Sides) (ls : List ℕ) (long : length ls ≡ cells g) (e : List ℕ) where
  last_level : (k : ℕ) → take (cells (sides_at g k)) (drop (cells_before g k) (written e 0 (all_labels g ls (suc k)))) ≡ labels_at g ls k
  unfolding all_labels
  last_level k = part_last e (all_labels g ls k) (labels_at g ls k) (cells_before g k) (cells (sides_at g k)) (all_long g ls long k) (length_kept g ls long k)

  next_place : (k : ℕ) → cells_before g k + cells (sides_at g k) ≡ 0 + length (all_labels g ls (suc k))
  unfolding cells_before
  next_place k = omega (arith, all_long g ls long (suc k))

  next_on : (k : ℕ) → written (written e 0 (all_labels g ls (suc k))) (0 + length (all_labels g ls (suc k))) (coarse (sides_at g k) (labels_at g ls k)) ≡ written e 0 (all_labels g ls (suc (suc k)))
  unfolding all_labels labels_at
  next_on k = written_on e 0 (all_labels g ls (suc k)) (omega arith) (labels_at g ls (suc k))

  next_more : (k : ℕ) → k < 6 → next_step (levels_of g) k (written e 0 (all_labels g ls (suc k))) ≡ written e 0 (all_labels g ls (suc (suc k)))
  unfolding next_step
  next_more k h =
      let w : List ℕ = written e 0 (all_labels g ls (suc k)) in
      ap₂ (λ s a. coarsened s a w) (sides_of_lem g k h) (start_of g k h)
      ∙ ap (λ x. written w (cells_before g k + cells (sides_at g k)) (coarse (sides_at g k) x)) (last_level k)
      ∙ ap (λ a. written w a (coarse (sides_at g k) (labels_at g ls k))) (next_place k)
      ∙ next_on k

  all_one : ls ≡ all_labels g ls 1
  unfolding all_labels labels_at
  all_one = refl

  all_run : (k : ℕ) → k < 6 → up (next_step (levels_of g)) k (written e 0 ls) ≡ written e 0 (all_labels g ls (suc k))
  unfolding up
  all_run zero h = ap (written e 0) all_one
  all_run (suc k) h = ap (next_step (levels_of g) k) (all_run k (omega arith)) ∙ next_more k (omega arith)

  all_kept : (k : ℕ) → k ≤ 6 → Fit g → byte_need (cells g) ≤ length e → length (written e 0 (all_labels g ls k)) ≡ length e
  all_kept k h z r = length_written e 0 (all_labels g ls k) (omega (arith, all_long g ls long k, room_enough g (length e) k z r h))

-- ---- all levels, as the loop asks it: l is laid out for its own base, and all but its last level are gone through
module _ (l : Levels) (count : ℕ) where
  abbrev gone : Levels
  gone = take (count - 1) l

  abbrev turned : ℕ → Level
  turned k = get_or gone k no_level

  module _ (n m : ℕ) (a : LabelsAsked l count n m) where
    gone_long : length gone ≡ count - 1
    unfolding levels_of
    gone_long = let q : length l ≡ 6 = ap length a.laid ∙ length_tab 6 (level_at (base l)) in length-take-le (count - 1) l (omega (arith, a.most))

    module _ (k : ℕ) (b : k < length gone) where
      turned_is : turned k ≡ get_or l k no_level
      turned_is = get_or-take (count - 1) l k no_level (omega (arith, gone_long))

      turned_sides : (turned k).sides ≡ sides_at (base l) k
      turned_sides = ap (λ (v : Level). v.sides) turned_is ∙ ap (λ x. sides_in x k) a.laid ∙ sides_of_lem (base l) k (omega (arith, gone_long, a.most))

      turned_start : (turned k).start ≡ cells_before (base l) k
      turned_start = ap (λ (v : Level). v.start) turned_is ∙ ap (λ x. start_in x k) a.laid ∙ start_of (base l) k (omega (arith, gone_long, a.most))

      pub all_fit : Fit (turned k).sides
      all_fit = rw turned_sides (fit_at (base l) a.fit k)

  module _ (ls e : List ℕ) (a : LabelsAsked l count (length ls) (length e)) where
    abbrev Stood : ℕ → List ℕ → Type 0
    Stood k s = Up (next_step l) (written e 0 ls) k s

    abbrev long : length gone ≡ count - 1
    long = gone_long (length ls) (length e) a

    stands : (k : ℕ) (s : List ℕ) → k < 6 → Stood k s → s ≡ written e 0 (all_labels (base l) ls (suc k))
    stands k s b u = u.is ∙ ap (λ x. up (next_step x) k (written e 0 ls)) a.laid ∙ all_run (base l) ls a.full e k b

    all_same : (k : ℕ) (s : List ℕ) → k + 1 ≤ count → Stood k s → length s ≡ length e
    all_same k s b u = ap length (stands k s (omega (arith, a.most)) u) ∙ all_kept (base l) ls a.full e (suc k) (omega (arith, a.most)) a.fit a.room

    pub all_room : (k : ℕ) (s : List ℕ) → k < length gone → Stood k s → (turned k).start + cells (turned k).sides + cells (halved (turned k).sides) ≤ length s
    unfolding cells_before sides_at
    all_room k s b u =
        let m : cells_before (base l) (suc (suc k)) ≤ length e = room_enough (base l) (length e) (suc (suc k)) a.fit a.room (omega (arith, long, a.most)) in
        let q : (turned k).sides ≡ sides_at (base l) k = turned_sides (length ls) (length e) a k b in
        omega (arith, all_same k s (omega (arith, long)) u, ap cells q, ap (λ x. cells (halved x)) q, turned_start (length ls) (length e) a k b, m)

    pub all_more : (k : ℕ) (s r : List ℕ) → k < length gone → Stood k s → r ≡ coarsened (turned k).sides (turned k).start s → Stood (k + 1) r
    unfolding next_step
    all_more k s r b u p = up_more u (p ∙ ap (λ (v : Level). coarsened v.sides v.start s) (turned_is (length ls) (length e) a k b))

    pub all_end : (k : ℕ) (s : List ℕ) → k ≤ length gone → length gone ≤ k → Stood k s → s ≡ written e 0 (all_labels (base l) ls count)
    all_end k s b b' u =
        let q : suc k ≡ count = omega (arith, long, a.least) in
        stands k s (omega (arith, long, a.most, a.least)) u ∙ ap (λ n. written e 0 (all_labels (base l) ls n)) q

pub all_copies : (l : Levels) (count n m : ℕ) → LabelsAsked l count n m → n ≤ m
unfolding byte_need
all_copies l count n m a = omega (arith, a.full, a.room)

pub ruleset coarsens = (rules, up_none, up_more, coarsen_at_is, coarsen_kept, coarsen_end, coarse_asked, coarse_room, next_fit)

pub ruleset copies = (rules, copied_none, copied_long, copied_room, copied_more, copied_end)

pub ruleset nexts = (rules, up_none, all_fit, all_room, all_more, all_end, all_copies)
