-- What the calls of a run ask, and its result; what the exported calls make of it. Assumes nothing.
use Prim.Native.Nat.{ℕ, zero, suc, ◌+◌, ◌-◌, ◌*◌, ◌≤◌, ◌<◌}
use mathlib.Core.Path.{◌≡◌, refl, sym, ap, ◌∙◌}
use mathlib.Core.Bool.{Bool, true}
use mathlib.Core.List.{List}
use native.Mathlib.Omega.{arith}
use borrow.Author.Rules.{rules}
use lib.ListN.{length, set}
use lib.IntN.{ℤ, pos}
use lib.Ieee.{Float}
use mir.Syntax.{w64}
use mir.Val.{SFits, to_z, of_z}
use mir.Facts.{to_z-of_z}
use Rattle.laws.specs.Binary64.{+0}
use Rattle.method.specs.declared.Sides.{Sides}
use Rattle.std.specs.Prelude.{None, Some, Option}
use Rattle.method.specs.Cast.{cells, sides_fit, judged, interior}
use Rattle.method.specs.Cycle.{cycle}
use Rattle.method.specs.Ticks.{tick}
use Rattle.method.specs.Rooms.{byte_need}
use Rattle.theory.specs.Levels.{sides_at, labels_at, cells_before, air_before}
use Rattle.theory.specs.Sides.{Fit}
use Rattle.theory.proofs.Sides.{fit, fits}
use Rattle.theory.proofs.Sizes.{cells_of_six}
use Rattle.theory.proofs.Counting.{counted_le}
use Rattle.grid.proofs.Steps.{cells_most}
use Rattle.levels.specs.Rooms.{written}
use Rattle.levels.specs.Levels.{levels_of, base, Levels}
use Rattle.levels.specs.AllLabels.{LabelsAsked, all_labels}
use Rattle.bands.specs.AllLists.{base_labels, AllListed, ListsAsked, Lists}
use Rattle.levels.proofs.Calls.{base_is, labels_asked}
use Rattle.bands.proofs.Calls.{base_labels_lem, lists_asked}
use Rattle.smooth.specs.Fields.{u_of, b_of}
use Rattle.cycle.specs.Strokes.{Ended}
use Rattle.cycle.specs.Rooms.{Ready, fields_from, Cycled}
use Rattle.cycle.proofs.Calls.{prepared_from, ready_first, fields_most, zero_end, zero_part}
use Rattle.library_tests.specs.Run.{Asked, CycleOf, SealedAs, WalkOf, TickAs, TickOf, PartOf}
use Rattle.text_out.specs.Puts as Puts
use Rattle.library_tests.specs.declared.Walk.{Walk}
use Rattle.distances.specs.declared.Walked.{Walked}
use Rattle.distances.specs.Search.{Roomy, Measured}

-- ---- the lists of a cast's levels, with or without openings, are no longer than the levels
interior_le : (g : Sides) (ls : List ℕ) → interior g ls ≤ cells g
unfolding interior
interior_le g ls = counted_le (judged ls) (cells g)

air_le : (g : Sides) (ls : List ℕ) (k : ℕ) → air_before g ls k ≤ cells_before g k
unfolding air_before cells_before
air_le g ls zero = omega arith
air_le g ls (suc k) = omega (arith, air_le g ls k, interior_le (sides_at g k) (labels_at g ls k))

-- ---- the calls of a run
module _ (g : Sides) (count : ℕ) (ls old words : List ℕ) (r : ℕ) (z : Asked g count (length ls) (length old) (length words) r) (l : Levels) (el : l ≡ levels_of g) where
  pub asked_labels : LabelsAsked l count (length ls) (length old)
  asked_labels = labels_asked g l el count (length ls) (length old) z.fit z.least z.most z.full z.bytes_enough

  air_room : air_before (base l) ls count ≤ length words
  air_room = rw (base_is g l el) (omega (arith, air_le g ls count, cells_of_six g (fits g z.fit) count z.most, z.words_enough))

  module _ (bytes : List ℕ) (eb : bytes ≡ written old 0 (all_labels (base l) ls count)) (kb : length bytes ≡ length old) where
    pub asked_lists : ListsAsked l count bytes (length words)
    asked_lists = lists_asked l count ls old bytes asked_labels eb (length words) kb air_room

    module _ (s : Lists) (listed : List ℕ) (kw : length listed ≡ length words) (p : AllListed (base l) (base_labels l bytes) count words s listed) where
      pub run_ready : (d : List Float) → length d ≡ r → Ready l s count 0 bytes listed (length d)
      run_ready d q = rw q (ready_first l s count bytes listed r
          (prepared_from l count ls old bytes words listed s asked_labels eb kb air_room kw p)
          (rw (base_is g l el) (omega (arith, fields_most g count z.fit z.most, z.room_enough))))

    pub run_is : (e d x : List Float) → length e ≡ r → d ≡ set e (length e - 1) +0 → Cycled l bytes count 0 d x
        → u_of (cells g) x ≡ cycle 0 (count - 1) g ls (b_of (cells g) e)
    unfolding sides_at labels_at
    run_is e d x k p q =
        let c : count - 1 - 0 ≡ count - 1 = omega arith in
        let o : u_of (cells (base l)) x ≡ cycle 0 (count - 1 - 0) (base l) (base_labels l bytes) (b_of (cells (base l)) d) = q.u in
        let o' : u_of (cells g) x ≡ cycle 0 (count - 1) g ls (b_of (cells g) d) = rw (base_is g l el, base_labels_lem l count ls old bytes asked_labels eb, c) at o in
        o' ∙ ap (cycle 0 (count - 1) g ls) (ap (b_of (cells g)) p ∙ zero_part e (cells g) (cells g) (omega (arith, z.room_enough)))

  pub run_end : (e d : List Float) → length e ≡ r → d ≡ set e (length e - 1) +0 → Ended (fields_from (base l) count 0) d
  run_end e d k p =
      rw p
      (zero_end e (fields_from (base l) count 0)
      (rw (base_is g l el) (omega (arith, fields_most g count z.fit z.most, z.room_enough))))

pub ruleset running = (rules, asked_labels, asked_lists, run_is)

-- ---- the calls
module _ (g : Sides) (w : Bool) (e : w ≡ sides_fit g) where
  pub sides_known : w ≡ true → Fit g
  sides_known t = fit g (sym e ∙ t)

pub few_cells : (g : Sides) (n : ℕ) → Fit g → n ≡ cells g → n ≤ 32768
few_cells g n z e = omega (arith, e, cells_most g z)

pub asked_is : (g : Sides) (count n labels need bytes words room : ℕ) → Fit g → n ≡ cells g → 1 ≤ count → count ≤ 6 → labels ≡ n
    → need ≡ byte_need n → need ≤ bytes → 2 * n + 5 ≤ words → 6 * n + 16 ≤ room → Asked g count labels bytes words room
asked_is g count n labels need bytes words room z e l m f q b w r = record {
  fit = z;
  least = l;
  most = m;
  full = f ∙ e;
  bytes_enough = omega (arith, q ∙ ap byte_need e);
  words_enough = omega arith;
  room_enough = omega arith;
}

zero_not_one : ◌≡◌ {A = ℕ} 0 1 → ⊥
zero_not_one e = omega arith

pub not_run : (g : Sides) (levels : ℕ) (ls : List ℕ) (e x : List Float) → CycleOf g levels ls e 0 x
not_run g levels ls e x = record { ran = λ q. absurd (zero_not_one q) }

pub is_run : (g : Sides) (levels : ℕ) (ls : List ℕ) (e x : List Float) → u_of (cells g) x ≡ cycle 0 (levels - 1) g ls (b_of (cells g) e) → CycleOf g levels ls e 1 x
is_run g levels ls e x h = record { ran = λ q. h }

pub not_walked : (g : Sides) (ls : List ℕ) (r : Walk) → r.fits ≡ 0 → WalkOf g ls r
not_walked g ls r e = record { depth = λ q. absurd (zero_not_one (sym e ∙ q)); sealed = λ q. absurd (zero_not_one (sym e ∙ q)) }

pub roomy_is : (g : Sides) (ls room : List ℕ) (n : ℕ) → Fit g → n ≡ cells g → length ls ≡ n → 2 * n ≤ length room → Roomy g ls room
roomy_is g ls room n z e l w = record { fit = z; sized = l ∙ e; long = omega arith }

module _ (g : Sides) (ls room left : List ℕ) (w : Walked) (z : Measured g ls room left w) where
  pub walked_sealed : (c : ℕ) → w.sealed ≡ Some c → WalkOf g ls (record { fits = 1; depth = w.depth; found = 1; sealed = c })
  unfolding SealedAs
  walked_sealed c e = record { depth = λ q. z.depth_is; sealed = λ q. rw (← z.sealed_is, e) (refl, refl) }

  pub walked_open : w.sealed ≡ None → WalkOf g ls (record { fits = 1; depth = w.depth; found = 0; sealed = 0 })
  unfolding SealedAs
  walked_open e = record { depth = λ q. z.depth_is; sealed = λ q. rw (← z.sealed_is, e) refl }

-- the value as the machine reads it back from its bits
pub tick_whole : (x : Float) (t : Option ℤ) (z : ℤ) → SFits w64 z → t ≡ tick x → t ≡ Some z → TickOf x (record { whole = 1; value = to_z w64 (of_z w64 z) })
unfolding TickAs
tick_whole x t z f e q = record { is = rw (← e, q) (refl, to_z-of_z f) }

pub tick_none : (x : Float) (t : Option ℤ) → t ≡ tick x → t ≡ None → TickOf x (record { whole = 0; value = pos 0 })
unfolding TickAs
tick_none x t e q = record { is = rw (← e, q) refl }

module _ (part old : List ℕ) where
  pub part_put : (r : ℕ) (new : List ℕ) → Puts.Put part old 0 new r → PartOf part old r new
  part_put r new z = record { found = λ h. z }

  pub part_short : length old < length part → PartOf part old 0 old
  part_short h = record { found = λ l. absurd (omega arith) }

  pub part_same : (ls : List ℕ) (r : ℕ) (new : List ℕ) → ls ≡ part → PartOf ls old r new → PartOf part old r new
  part_same ls r new e z = rw e at z

pub ruleset calling = (rules, part_put, part_short, part_same, tick_none, sides_known, few_cells, asked_is, not_run, is_run, not_walked, roomy_is, walked_sealed, walked_open)
