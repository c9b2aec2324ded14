-- What is prepared: the labels and lists of all levels, for a plan of this very cast. Assumes nothing.
use Prim.Native.Nat.{ℕ, ◌≤◌}
use mathlib.Core.Path.{◌≡◌, refl}
use mathlib.Core.List.{List}
use borrow.Author.Rules.{rules}
use lib.ListN.{length}
use Rattle.method.specs.declared.Sides.{Sides}
use Rattle.theory.specs.Levels.{air_before}
use Rattle.levels.specs.Rooms.{written}
use Rattle.levels.specs.Levels.{levels_of, base, Levels}
use Rattle.levels.specs.AllLabels.{LabelsAsked, all_labels}
use Rattle.bands.specs.AllLists.{base_labels, AllListed, ListsAsked, Lists}
use Rattle.levels.proofs.Calls.{base_is, labels_asked}
use Rattle.bands.proofs.Calls.{base_labels_lem, lists_asked}
use Rattle.cycle.proofs.Calls.{prepared_from}
use Rattle.solve.specs.Work.{PrepareAsked, PlanOf}

module _ (g : Sides) (ls : List ℕ) (count : ℕ) (old e : List ℕ) (z : PrepareAsked g ls count (length old) (length e)) (l : Levels) (q : l ≡ levels_of g) where
  pub labels_here : LabelsAsked l count (length ls) (length old)
  labels_here = labels_asked g l q count (length ls) (length old) z.fit z.least z.most z.labelled z.bytes_long

  air_room : air_before (base l) ls count ≤ length e
  air_room = rw (base_is g l q) z.words_long

  module _ (bytes : List ℕ) (b : bytes ≡ written old 0 (all_labels (base l) ls count)) (k : length bytes ≡ length old) where
    pub lists_here : ListsAsked l count bytes (length e)
    lists_here = lists_asked l count ls old bytes labels_here b (length e) k air_room

    pub plan_is : (s : Lists) (words : List ℕ) → length words ≡ length e → AllListed (base l) (base_labels l bytes) count e s words
        → PlanOf g ls count (record { levels = l; lists = s; count = count }) bytes words
    plan_is s words long p = record {
      prepared = prepared_from l count ls old bytes e words s labels_here b k air_room long p;
      sides = base_is g l q;
      labels = base_labels_lem l count ls old bytes labels_here b;
      count = refl;
    }

pub ruleset preparing = (rules, labels_here, lists_here, plan_is)
