-- What a caller of this crate's functions needs: that what they ask holds, and that what they promise is one result.
-- Assumes nothing.
use Prim.Native.Nat.{ℕ, ◌≤◌, ◌<◌}
use mathlib.Core.Path.{◌≡◌, sym, ap, ◌∙◌}
use mathlib.Core.List.{List}
use native.Mathlib.Omega.{arith}
use lib.ListN.{length}
use Rattle.method.specs.declared.Sides.{Sides}
use Rattle.method.specs.Cast.{cells, label_at}
use Rattle.method.specs.Rooms.{word_need}
use Rattle.theory.specs.Walks.{Walk}
use Rattle.theory.specs.Levels.{sides_at, labels_at, cells_before, air_before}
use Rattle.theory.specs.Sides.{Fit}
use Rattle.theory.proofs.Sides.{fits}
use Rattle.theory.proofs.Kept.{air_of_six}
use Rattle.levels.specs.Rooms.{written}
use Rattle.levels.specs.Levels.{Levels, base}
use Rattle.levels.specs.AllLabels.{all_labels, LabelsAsked}
use Rattle.levels.proofs.Calls.{labels_in_lem}
use Rattle.bands.specs.declared.lists.LevelList.{LevelList}
use Rattle.levels.proofs.Starts.{firsts_at}
use Rattle.bands.specs.Lists.{Listed}
use Rattle.bands.specs.AllLists.{Lists, list_at, air_at, lists_before, list_row, no_list, lists_to, row_in, AllListed, base_labels, ListsAsked}

module _ (l : Levels) (count : ℕ) (ls e s : List ℕ) (a : LabelsAsked l count (length ls) (length e)) (h : s ≡ written e 0 (all_labels (base l) ls count)) where
  pub base_labels_lem : base_labels l s ≡ ls
  unfolding base_labels sides_at cells_before labels_at
  base_labels_lem = (labels_in_lem (base l) ls a.full count e s h).at 0 a.least

  pub lists_asked : (words : ℕ) → length s ≡ length e → air_before (base l) ls count ≤ words → ListsAsked l count s words
  lists_asked words k r = record {
    fit = a.fit;
    laid = a.laid;
    most = a.most;
    full = rw k a.room;
    labels = rw base_labels_lem (labels_in_lem (base l) ls a.full count e s h);
    room = rw base_labels_lem r;
  }

-- the word room has room for every level's air cells
pub words_enough : (g : Sides) (ls : List ℕ) → Fit g → length ls ≡ cells g → ((i : ℕ) → label_at ls i ≡ 0 → (k : ℕ) × Walk g ls i k) → (i₀ : ℕ) → label_at ls i₀ ≡ 0
    → (count words : ℕ) → word_need (cells g) ≤ words → air_before g ls count ≤ words
unfolding word_need
words_enough g ls z long w i₀ air count words r = omega (arith, air_of_six g ls (fits g z) long w i₀ air count)

-- ---- what is read of the lists: level k's, where k is a level in use
module _ {g : Sides} {ls : List ℕ} {count : ℕ} {e : List ℕ} {r : Lists} {s : List ℕ} (p : AllListed g ls count e r s) (k : ℕ) (most : count ≤ 6) (h : k < count) where
  row_of : row_in r k ≡ list_row g ls count k
  unfolding lists_to
  row_of = ap (λ t. row_in t k) p.lists ∙ firsts_at no_list (list_row g ls count) count k no_list most h

  pub row_start : (row_in r k).start ≡ length (lists_before g ls count k)
  unfolding list_row
  row_start = ap (λ (t : LevelList). t.start) row_of

  pub row_swept : (row_in r k).swept ≡ length (list_at g ls count k)
  unfolding list_row
  row_swept = ap (λ (t : LevelList). t.swept) row_of

  pub row_air : (row_in r k).air ≡ length (air_at g ls count k)
  unfolding list_row
  row_air = ap (λ (t : LevelList). t.air) row_of

-- ---- what is promised is one result
module _ {e : List ℕ} {a : ℕ} {l : List ℕ} {r r' : ℕ} {s s' : List ℕ} where
  pub listed_one : Listed e a l r s → Listed e a l r' s' → (r ≡ r') × (s ≡ s')
  listed_one p q = (p.count ∙ sym q.count, p.room ∙ sym q.room)

module _ {g : Sides} {ls : List ℕ} {count : ℕ} {e : List ℕ} {r r' : Lists} {s s' : List ℕ} where
  pub all_listed_one : AllListed g ls count e r s → AllListed g ls count e r' s' → (r ≡ r') × (s ≡ s')
  all_listed_one p q = (p.lists ∙ sym q.lists, p.room ∙ sym q.room)
