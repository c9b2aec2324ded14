-- Laws of words, signed numbers, the bytes of a value, and values stored one a turn. Assumes nothing.
use mathlib.Core.Path.{◌≡◌, refl, sym, ap, ap₂, ◌∙◌}
use mathlib.Core.Bool.{Bool, true, false, cond}
use mathlib.Core.List.{List, [], ◌∷◌, ◌++◌}
use Prim.Native.Nat.{ℕ, suc, ◌+◌, ◌-◌, ◌*◌, ◌≤◌, ◌<◌}
use native.Mathlib.Numerals.{add-one}
use native.Mathlib.Omega.{arith}
use borrow.Author.Rules.{rules}
use lib.Dec.{ltb}
use lib.ListN.{length, get_or, set, take, drop}
use lib.Seq.{drop-cons, set_at, append_snoc}
use lib.IntN.{ℤ, pos, negsuc, nat_abs}
use Rattle.std.specs.Int.{from_be_bytes}
use mir.Syntax.{w32}
use mir.Val.{SFits, to_z, of_z}
use mir.Facts.{to_z-of_z}
use Rattle.laws.specs.Lists.{tab}
use Rattle.laws.proofs.Lists.{get_or_any, length_tab}
use Rattle.laws.proofs.Fill.{tab_snoc}
use Rattle.method.specs.declared.Order.{Order}
use Rattle.method.specs.declared.Order.TheVariants.{Big, Little}
use Rattle.method.specs.Cast.{label_at, widest}
use Rattle.method.specs.Rooms.{filled}
use Rattle.method.specs.Form.{in_order, most_first, twos_complement, word_of, value_read}
use Rattle.session_values.specs.Body.{value_in, bad_value_in}

-- ---- two's complement, as the library casts
pub as_read : (w : ℕ) (v : ℤ) → v ≡ to_z w32 w → v ≡ twos_complement w
unfolding twos_complement
as_read w v q = q ∙ go (ltb w 2147483648) refl
  where
    go : (b : Bool) → ltb w 2147483648 ≡ b → to_z w32 w ≡ cond (ltb w 2147483648) (pos w) (negsuc (4294967296 - suc w))
    go true e = rw e
    go false e = rw e

word_cast : (v : ℤ) → of_z w32 v ≡ word_of v
unfolding word_of
word_cast (pos n) = refl
word_cast (negsuc n) = refl

pub as_word : (w : ℕ) (v : ℤ) → SFits w32 v → w ≡ of_z w32 (to_z w32 (of_z w32 v)) → w ≡ word_of v
as_word w v f q = q ∙ ap (of_z w32) (to_z-of_z f) ∙ word_cast v

-- ---- the four bytes at a place
four : (l : List ℕ) (at : ℕ) → at + 4 ≤ length l → take 4 (drop at l) ≡ get_or l at 0 ∷ get_or l (at + 1) 0 ∷ get_or l (at + 2) 0 ∷ get_or l (at + 3) 0 ∷ []
four l at h =
    rw (drop-cons l at 0 (omega arith), drop-cons l (suc at) 0 (omega arith), drop-cons l (suc (suc at)) 0 (omega arith), drop-cons l (suc (suc (suc at))) 0 (omega arith))
    (ap₂ (λ x y. get_or l at 0 ∷ get_or l x 0 ∷ y) (omega arith) (ap₂ (λ x y. get_or l x 0 ∷ get_or l y 0 ∷ []) (omega arith) (omega arith)))

pub bytes_word : (a b c d w : ℕ) → w ≡ from_be_bytes w32 (a ∷ b ∷ c ∷ d ∷ []) → w ≡ most_first 0 (a ∷ b ∷ c ∷ d ∷ [])
unfolding most_first
bytes_word a b c d w q = omega (arith, q)

module _ (l : List ℕ) (at r : ℕ) (o : Order) (h : at + 4 ≤ length l) where
  pub big_word : o ≡ Big → r ≡ most_first 0 (get_or l at 0 ∷ get_or l (at + 1) 0 ∷ get_or l (at + 2) 0 ∷ get_or l (at + 3) 0 ∷ []) → r ≡ most_first 0 (in_order o (take 4 (drop at l)))
  unfolding in_order
  big_word e q = q ∙ rw (e, four l at h)

  pub little_word : o ≡ Little → r ≡ most_first 0 (get_or l (at + 3) 0 ∷ get_or l (at + 2) 0 ∷ get_or l (at + 1) 0 ∷ get_or l at 0 ∷ []) → r ≡ most_first 0 (in_order o (take 4 (drop at l)))
  unfolding in_order
  little_word e q = q ∙ rw (e, four l at h)

-- ---- cells of a body
pub value_of_cell : (body : List ℕ) (n c w : ℕ) (o : Order) (v : ℤ) → w ≡ most_first 0 (in_order o (take 4 (drop (n + 4 * c) body))) → v ≡ twos_complement w → v ≡ value_in body n o c
unfolding value_in value_read
value_of_cell body n c w o v e q = q ∙ ap twos_complement e

pub bad_of_cell : (body : List ℕ) (n c : ℕ) (o : Order) (v : ℤ) (r : Bool) → c < n → 5 * n ≤ length body → SFits w32 v → v ≡ value_in body n o c
    → r ≡ ltb (widest (get_or body c 0)) (nat_abs (to_z w32 (of_z w32 v))) → r ≡ bad_value_in body n o c
unfolding bad_value_in label_at
bad_of_cell body n c o v r h l f e q =
    let g : get_or body c 0 ≡ get_or body c 2 = get_or_any body c 0 2 (omega arith) in
    q ∙ ap₂ (λ x y. ltb (widest x) (nat_abs y)) g (to_z-of_z f ∙ e)

-- ---- a list filled from the front, one store a turn
module _ {A : Type 0} where
  -- the first c elements are f's, the others are as they were
  pub record Stored (f : ℕ → A) (old : List A) (c : ℕ) (now : List A) : Type 0 where
    pub is : now ≡ tab c f ++ drop c old

  pub stored_none : (f : ℕ → A) (old : List A) → Stored f old 0 old
  unfolding tab
  stored_none f old = record { is = refl }

  pub stored_more : (f : ℕ → A) (old now : List A) (c : ℕ) (v : A) → c < length old → Stored f old c now → v ≡ f c → Stored f old (c + 1) (set now c v)
  stored_more f old now c v l h e = record {
    is = ap₂ (λ x y. set x c y) (h.is ∙ ap (λ y. tab c f ++ y) (drop-cons old c v l)) e
        ∙ set_at (tab c f) (get_or old c v) (drop (suc c) old) (f c) c (length_tab c f)
        ∙ sym (append_snoc (tab c f) (f c) (drop (suc c) old))
        ∙ ap₂ ◌++◌ (sym (tab_snoc c f)) refl
        ∙ ap (λ k. tab k f ++ drop k old) (sym (add-one c));
  }

  pub stored_all : (f : ℕ → A) (old now : List A) (c n : ℕ) → c ≤ n → n ≤ c → Stored f old c now → now ≡ filled n (tab n f) old
  unfolding filled
  stored_all f old now c n a b h = h.is ∙ ap (λ k. tab k f ++ drop k old) (omega arith)

pub ruleset words = (rules, as_read, as_word, bytes_word, big_word, little_word, value_of_cell, bad_of_cell)
