-- A stretch of a room: what is around it stays, what it holds, the same stretch again, the stretch after it. Assumes
-- nothing.
use Prim.Native.Nat.{ℕ, zero, suc, ◌+◌, ◌-◌, ◌<◌, ◌≤◌}
use mathlib.Core.Path.{◌≡◌, sym, ap, ap₂, ◌∙◌}
use mathlib.Core.Logic.{◌⊎◌, ⊎_elim}
use mathlib.Core.List.{List, [], ◌∷◌, ◌++◌, append_assoc}
use native.Mathlib.Nat.{zero-add}
use native.Mathlib.Omega.{arith}
use borrow.Rule.Slice.PartMut.{mid_of, put_mid}
use lib.ListN.{length, get_or, set, take, drop, length-append, length-drop, take-append-drop, get_or-append}
use lib.Seq.{get_or-take, get_or-drop, get_or-append-add, length-take-le, take_at, drop_at}
use lib.Ieee.{Float, nan, binary64, of_bits}
use Rattle.laws.specs.Loops.{up}
use Rattle.laws.specs.Lists.{tab}
use Rattle.laws.specs.Binary64.{+0}
use Rattle.laws.proofs.Lists.{length_tab, get_or_tab}
use Rattle.laws.proofs.Fill.{tab_same, part_take, part_drop, filled}
use Rattle.method.specs.Rooms.{cleared}
use Rattle.method.specs.Transfers.{value}
use Rattle.rooms.proofs.Clears.{zeroed_part}
use Rattle.transfer.specs.Rows.{Stretch}

-- two tabs, one after the other
tab_join : (j m : ℕ) (f : ℕ → Float) → tab j f ++ tab m (λ i. f (j + i)) ≡ tab (j + m) f
unfolding tab
tab_join zero m f = tab_same m (λ i. f (0 + i)) f (λ i l. ap f (zero-add i)) ∙ ap (λ k. tab k f) (sym (zero-add m))
tab_join (suc j) m f =
    let k : suc (j + m) ≡ suc j + m = omega arith in
    ap (λ t. f 0 ∷ (tab j (λ i. f (suc i)) ++ t)) (tab_same m (λ i. f (suc j + i)) (λ i. f (suc (j + i))) (λ i l. ap f (after i)))
    ∙ ap (λ t. f 0 ∷ t) (tab_join j m (λ i. f (suc i)))
    ∙ ap (λ n. tab n f) k
  where
    after : (i : ℕ) → suc j + i ≡ suc (j + i)
    after i = omega arith

module _ {f : ℕ → Float} {o m : ℕ} {e s : List Float} (room : o + m ≤ length e) (h : Stretch f o m e s) where
  front_long : length (take o e) ≡ o
  front_long = length-take-le o e (omega arith)

  head_long : length (take o e ++ tab m f) ≡ o + m
  head_long = length-append (take o e) (tab m f) ∙ ap₂ ◌+◌ front_long (length_tab m f)

  apart : s ≡ take o e ++ (tab m f ++ drop (o + m) e)
  apart = h.is ∙ append_assoc (take o e) (tab m f) (drop (o + m) e)

  pub stretch_front : take o s ≡ take o e
  stretch_front = ap (take o) apart ∙ take_at (take o e) (tab m f ++ drop (o + m) e) o front_long

  stretch_head : take (o + m) s ≡ take o e ++ tab m f
  stretch_head = ap (take (o + m)) h.is ∙ take_at (take o e ++ tab m f) (drop (o + m) e) (o + m) head_long

  pub stretch_end : drop (o + m) s ≡ drop (o + m) e
  stretch_end = ap (drop (o + m)) h.is ∙ drop_at (take o e ++ tab m f) (drop (o + m) e) (o + m) head_long

  pub stretch_long : length s ≡ length e
  stretch_long = omega (arith, ap length h.is, length-append (take o e ++ tab m f) (drop (o + m) e), head_long, length-drop (o + m) e)

  pub stretch_cell : (i : ℕ) → i < m → value s (o + i) ≡ f i
  stretch_cell i l =
      ap₂ (λ t k. get_or t (k + i) nan) apart (sym front_long)
      ∙ get_or-append-add (take o e) (tab m f ++ drop (o + m) e) i nan
      ∙ get_or-append (tab m f) (drop (o + m) e) nan i (omega (arith, length_tab m f))
      ∙ get_or_tab m f i nan l

  -- a part before it or after it
  pub stretch_part : (from k : ℕ) → (from + k ≤ o) ⊎ (o + m ≤ from) → take k (drop from s) ≡ take k (drop from e)
  stretch_part from k a = ⊎_elim
      (λ l. sym (part_take from k o s l) ∙ ap (λ t. take k (drop from t)) stretch_front ∙ part_take from k o e l)
      (λ l. ap (take k) (sym (part_drop (o + m) from s l) ∙ ap (drop (from - (o + m))) stretch_end ∙ part_drop (o + m) from e l))
      a

  -- the same stretch again
  pub stretch_again : {d : ℕ → Float} {t : List Float} → Stretch d o m s t → Stretch d o m e t
  stretch_again {d} {t} q = record { is = q.is ∙ ap₂ (λ a b. a ++ tab m d ++ b) stretch_front stretch_end }

  pub stretch_same : {d : ℕ → Float} → ((i : ℕ) → i < m → f i ≡ d i) → Stretch d o m e s
  stretch_same {d} q = record { is = h.is ∙ ap (λ t. take o e ++ t ++ drop (o + m) e) (tab_same m f d q) }

-- the stretch after it
pub stretch_more : (f : ℕ → Float) (o j m : ℕ) (e s t : List Float) → o + (j + m) ≤ length e → Stretch f o j e s → Stretch (λ i. f (j + i)) (o + j) m s t → Stretch f o (j + m) e t
stretch_more f o j m e s t room h q =
    let k : o + j + m ≡ o + (j + m) = omega arith in
    let short : o + j ≤ length e = omega arith in
    let end : drop (o + j + m) s ≡ drop (o + (j + m)) e =
    sym (part_drop (o + j) (o + j + m) s (omega arith)) ∙ ap (drop (o + j + m - (o + j))) (stretch_end short h) ∙ part_drop (o + j) (o + j + m) e (omega arith) ∙ ap (λ n. drop n e) k in
    record {
      is = q.is ∙ ap₂ (λ a b. a ++ tab m (λ i. f (j + i)) ++ b) (stretch_head short h) end
          ∙ ap (λ a. a ++ drop (o + (j + m)) e) (append_assoc (take o e) (tab j f) (tab m (λ i. f (j + i))) ∙ ap (λ a. take o e ++ a) (tab_join j m f));
    }

-- none yet
pub stretch_none : (f : ℕ → Float) (o : ℕ) (e : List Float) → o ≤ length e → Stretch f o 0 e e
unfolding tab
stretch_none f o e l =
    let k : o + 0 ≡ o = omega arith in
    record { is = sym (ap (λ n. (take o e ++ []) ++ drop n e) k ∙ append_assoc (take o e) [] (drop o e) ∙ take-append-drop o e) }

-- a stretch that is filled cell by cell, each from what the earlier turns have left as it was
pub stretch_filled : (f : ℕ → List Float → Float) (o m : ℕ) (e s : List Float) → o + m ≤ length e
    → ((c : ℕ) (s : List Float) → c < m → take o s ≡ take o e → drop (o + c) s ≡ drop (o + c) e → f c s ≡ f c e)
    → s ≡ up (λ c t. set t (o + c) (f c t)) m e → Stretch (λ c. f c e) o m e s
stretch_filled f o m e s room same q = record { is = q ∙ filled f e o m room same }

-- a part that is lent to the room's end holds the stretch
pub lent_long : (o m : ℕ) (e : List Float) → o + m ≤ length e → m ≤ length (mid_of o (length e - o) e)
lent_long o m e room = omega (arith, length-take-le (length e - o) (drop o e) (omega (arith, length-drop o e)), length-drop o e)

-- a stretch of zeros, in a part that was lent to the room's end and came home cleared
pub zeros_home : (o m : ℕ) (e part : List Float) → o + m ≤ length e → part ≡ cleared m (of_bits binary64 0) (mid_of o (length e - o) e)
    → Stretch (λ i. +0) o m e (put_mid o (length e - o) e part)
zeros_home o m e part room q =
    record { is = zeroed_part o m e part (omega arith) q ∙ sym (append_assoc (take o e) (tab m (λ i. +0)) (drop (o + m) e)) }

-- a cell of what is left, and one of what is in front
pub value_left : (k j : ℕ) (e s : List Float) → k ≤ j → drop k s ≡ drop k e → value s j ≡ value e j
value_left k j e s l q =
    let z : j ≡ k + (j - k) = omega arith in
    ap (λ n. get_or s n nan) z ∙ sym (get_or-drop k s (j - k) nan) ∙ ap (λ t. get_or t (j - k) nan) q ∙ get_or-drop k e (j - k) nan ∙ ap (λ n. get_or e n nan) (sym z)

pub value_front : (k j : ℕ) (e s : List Float) → j < k → take k s ≡ take k e → value s j ≡ value e j
value_front k j e s l q = sym (get_or-take k s j nan l) ∙ ap (λ t. get_or t j nan) q ∙ get_or-take k e j nan l
