-- What a caller of this crate's functions needs: that what they ask holds, and where each level's labels then stand.
-- Assumes nothing.
use Prim.Native.Nat.{ℕ, zero, suc, ◌+◌, ◌-◌, ◌≤◌, ◌<◌}
use mathlib.Core.Path.{◌≡◌, refl, sym, ap, subst, ◌∙◌}
use mathlib.Core.Logic.{⊎_elim}
use mathlib.Core.List.{List, ◌++◌}
use native.Mathlib.Nat.{le_of_suc-le-suc, eq-or-lt_of_le}
use native.Mathlib.Omega.{arith}
use lib.ListN.{length, take, drop, length-drop}
use lib.Seq.{take-append-le, drop-append-le, drop_at, take_all}
use Rattle.laws.specs.Lists.{tab}
use Rattle.method.specs.declared.Sides.{Sides}
use Rattle.method.specs.Cast.{cells}
use Rattle.method.specs.Rooms.{byte_need}
use Rattle.theory.specs.Levels.{sides_at, labels_at, cells_before}
use Rattle.theory.specs.Sides.{Fit}
use Rattle.theory.proofs.Kept.{length_kept}
use Rattle.levels.specs.Rooms.{written}
use Rattle.levels.specs.Levels.{Levels, level_at, levels_of, base}
use Rattle.levels.specs.AllLabels.{all_labels, LabelsIn, LabelsAsked}
use Rattle.levels.proofs.Labelled.{all_long}

-- ---- the levels of a box know the box
pub base_of : (g : Sides) → base (levels_of g) ≡ g
unfolding base levels_of level_at tab sides_at
base_of g = refl

module _ (g : Sides) (l : Levels) (e : l ≡ levels_of g) where
  pub base_is : base l ≡ g
  base_is = ap base e ∙ base_of g

  pub laid_is : l ≡ levels_of (base l)
  laid_is = e ∙ ap levels_of (sym base_is)

  pub labels_asked : (count labels bytes : ℕ) → Fit g → 1 ≤ count → count ≤ 6 → labels ≡ cells g → byte_need (cells g) ≤ bytes → LabelsAsked l count labels bytes
  labels_asked count labels bytes z least most full room = record {
    fit = rw base_is z;
    laid = laid_is;
    least = least;
    most = most;
    full = full ∙ ap cells (sym base_is);
    room = rw base_is room;
  }

-- ---- each level's labels, in the room that `all_labels` leaves
module _ (g : Sides) where
  before_grows : (k m : ℕ) → cells_before g k ≤ cells_before g (m + k)
  unfolding cells_before
  before_grows k zero = let q : 0 + k ≡ k = omega arith in rw q (omega arith)
  before_grows k (suc m) = let q : suc m + k ≡ suc (m + k) = omega arith in rw q (omega (arith, before_grows k m))

  pub before_up_to : (k m : ℕ) → k ≤ m → cells_before g k ≤ cells_before g m
  before_up_to k m h = let q : m - k + k ≡ m = omega arith in rw q at (before_grows k (m - k))

-- a part that lies in the first of two lists
pub part_left : (x y : List ℕ) (b n : ℕ) → b + n ≤ length x → take n (drop b (x ++ y)) ≡ take n (drop b x)
part_left x y b n h = ap (take n) (drop-append-le b x y (omega arith)) ∙ take-append-le n (drop b x) y (omega (arith, length-drop b x))

module _ (g : Sides) (ls : List ℕ) (long : length ls ≡ cells g) where
  abbrev Part : List ℕ → ℕ → Type 0
  Part s k = take (cells (sides_at g k)) (drop (cells_before g k) s) ≡ labels_at g ls k

  inside : (count k : ℕ) → k < count → cells_before g k + cells (sides_at g k) ≤ length (all_labels g ls count)
  unfolding cells_before
  inside count k h = omega (arith, before_up_to g (suc k) count h, all_long g ls long count)

  part_of : (count k : ℕ) → k < count → Part (all_labels g ls count) k
  unfolding all_labels
  part_of zero k h = absurd (omega arith)
  part_of (suc m) k h = ⊎_elim
      (λ e. subst (Part (all_labels g ls m ++ labels_at g ls m)) (sym e) last)
      (λ l. part_left (all_labels g ls m) (labels_at g ls m) (cells_before g k) (cells (sides_at g k)) (inside m k l) ∙ part_of m k l)
      (eq-or-lt_of_le (le_of_suc-le-suc h))
    where
      last : Part (all_labels g ls m ++ labels_at g ls m) m
      last =
          ap (take (cells (sides_at g m))) (drop_at (all_labels g ls m) (labels_at g ls m) (cells_before g m) (all_long g ls long m))
          ∙ take_all (cells (sides_at g m)) (labels_at g ls m) (omega (arith, length_kept g ls long m))

  pub labels_in_lem : (count : ℕ) (e s : List ℕ) → s ≡ written e 0 (all_labels g ls count) → LabelsIn g ls count s
  unfolding written
  labels_in_lem count e s h = record { at = λ k l. ap (λ x. take (cells (sides_at g k)) (drop (cells_before g k) x)) h ∙ part_left (all_labels g ls count) (drop (0 + length (all_labels g ls count)) e) (cells_before g k) (cells (sides_at g k)) (inside count k l) ∙ part_of count k l }
