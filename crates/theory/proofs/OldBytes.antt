-- Values of two bytes, a unit to each: written and read, read and written; and rows of values of any width. Assumes
-- nothing.
use mathlib.Core.Path.{◌≡◌, refl, sym, ap, ap₂, subst, ◌∙◌}
use mathlib.Core.Logic.{⊎_elim}
use mathlib.Core.Bool.{true, ◌&&◌, cond}
use mathlib.Core.List.{List, [], ◌∷◌, ◌++◌, append_assoc, flat_map}
use Prim.Native.Nat.{ℕ, zero, suc, ◌+◌, ◌-◌, ◌*◌, ◌/◌, ◌%◌, ◌^◌, ◌<◌, ◌≤◌, suc-le-suc}
use native.Mathlib.Nat.{div-add-mod, mul-div_cancel_left, mul-mod_right}
use native.Mathlib.Omega.{arith}
use lib.Dec.{T, eqb, ltb→lt, eqb→eq}
use lib.ListN.{length, get_or, take, drop, length-append, length-drop, take-append-drop}
use lib.Seq.{take_at, take-add, drop-append-add, drop-cons, drop-drop, length-take-le}
use lib.IntN.{ℤ, pos, negsuc, nat_abs, neg_ℤ}
use borrow.Author.Tests.{lt-ltb, le-ltb, eq-eqb}
use Rattle.laws.specs.Whole.{◌*ᶻ◌, neg}
use Rattle.method.specs.Form.{most_first}
use Rattle.method.specs.OldForm.{short_signed, short_word, two_bytes, old_value_read, stored, old_value_written, fits16, expressible}
use Rattle.laws.proofs.Bools.{and_l, and_r, so}
use Rattle.laws.proofs.Fill.{tab_same}
use Rattle.laws.proofs.Zed.{abs_times}
use Rattle.laws.specs.Lists.{tab}
use Rattle.laws.proofs.Naturals.{le_or_lt}

-- ---- two's complement in 16 bits
-- z is from -2^15 to 2^15 - 1
abbrev pub Short : ℤ → Type 0
Short (pos n) = n < 2 ^ 15
Short (negsuc n) = n < 2 ^ 15

pub short_if : (z : ℤ) → T (fits16 z) → Short z
unfolding fits16
short_if (pos n) t = ltb→lt n (2 ^ 15) t
short_if (negsuc n) t = ltb→lt n (2 ^ 15) t

pub short_is : (z : ℤ) → Short z → fits16 z ≡ true
unfolding fits16
short_is (pos n) h = lt-ltb n (2 ^ 15) h
short_is (negsuc n) h = lt-ltb n (2 ^ 15) h

word_short : (z : ℤ) → Short z → short_signed (short_word z) ≡ z
unfolding short_signed short_word
word_short (pos n) h = ap (λ t. cond t (pos n) (negsuc (2 ^ 16 - suc n))) (lt-ltb n (2 ^ 15) h)
word_short (negsuc n) h =
    let h' : n < 2 ^ 15 = h in
    ap (λ t. cond t (pos (2 ^ 16 - suc n)) (negsuc (2 ^ 16 - suc (2 ^ 16 - suc n)))) (le-ltb (2 ^ 16 - suc n) (2 ^ 15) (omega arith))
    ∙ ap negsuc (omega arith)

short_word_lem : (w : ℕ) → w < 2 ^ 16 → short_word (short_signed w) ≡ w
unfolding short_signed short_word
short_word_lem w h =
    ⊎_elim
    (λ high. ap (λ t. short_word (cond t (pos w) (negsuc (2 ^ 16 - suc w)))) (le-ltb w (2 ^ 15) high) ∙ omega arith)
    (λ low. ap (λ t. short_word (cond t (pos w) (negsuc (2 ^ 16 - suc w)))) (lt-ltb w (2 ^ 15) low))
    (le_or_lt (2 ^ 15) w)

short_small : (z : ℤ) → Short z → short_word z < 2 ^ 16
unfolding short_word
short_small (pos n) h = let h' : n < 2 ^ 15 = h in omega arith
short_small (negsuc n) h = let h' : n < 2 ^ 15 = h in omega arith

-- what two bytes hold is short
pub signed_short : (w : ℕ) → w < 2 ^ 16 → Short (short_signed w)
unfolding short_signed
signed_short w h =
    ⊎_elim
    (λ high. subst (λ t. Short (cond t (pos w) (negsuc (2 ^ 16 - suc w)))) (sym (le-ltb w (2 ^ 15) high)) (high_short high))
    (λ low. subst (λ t. Short (cond t (pos w) (negsuc (2 ^ 16 - suc w)))) (sym (lt-ltb w (2 ^ 15) low)) low)
    (le_or_lt (2 ^ 15) w)
  where
    high_short : 2 ^ 15 ≤ w → 2 ^ 16 - suc w < 2 ^ 15
    high_short k = omega arith

-- ---- a word as two bytes
bytes_short : (w : ℕ) → w < 2 ^ 16 → most_first 0 (two_bytes w) ≡ w
unfolding most_first two_bytes
bytes_short w h = omega (arith, div-add-mod w 256)

short_bytes : (a b : ℕ) → a < 256 → b < 256 → two_bytes (most_first 0 (a ∷ b ∷ [])) ≡ a ∷ b ∷ []
unfolding most_first two_bytes
short_bytes a b ha hb = two (omega arith) (omega arith)
  where
    two : {p q p' q' : ℕ} → p ≡ p' → q ≡ q' → p ∷ q ∷ [] ≡ p' ∷ q' ∷ []
    two e f = cc

pub short_below : (a b : ℕ) → a < 256 → b < 256 → most_first 0 (a ∷ b ∷ []) < 2 ^ 16
unfolding most_first
short_below a b ha hb = omega arith

-- ---- the unit
-- a multiple of the unit is its stored number times the unit
times_stored : (u : ℕ) (z : ℤ) → nat_abs z % u ≡ 0 → pos u *ᶻ stored u z ≡ z
unfolding stored ◌*ᶻ◌ neg
times_stored u (pos n) h = ap pos (omega (arith, div-add-mod n u))
times_stored u (negsuc n) h = go (suc n / u) (omega (arith, div-add-mod (suc n) u))
  where
    go : (q : ℕ) → u * q ≡ suc n → pos u *ᶻ neg (pos q) ≡ negsuc n
    go zero e = absurd (omega arith)
    go (suc q) e = ap (λ m. neg_ℤ (pos m)) e

-- and the stored number of a multiple is what was multiplied
stored_times : (u : ℕ) (z : ℤ) → 1 ≤ u → stored u (pos u *ᶻ z) ≡ z
unfolding stored ◌*ᶻ◌ neg
stored_times u (pos n) h = ap pos (mul-div_cancel_left n h)
stored_times u (negsuc n) h = go (u * suc n) refl
  where
    go : (m : ℕ) → u * suc n ≡ m → stored u (neg_ℤ (pos m)) ≡ negsuc n
    go zero e = absurd (omega arith)
    go (suc m) e = ap (λ q. neg_ℤ (pos q)) (ap (λ k. k / u) (sym e) ∙ mul-div_cancel_left (suc n) h)

pub times_expressible : (u : ℕ) (z : ℤ) → 1 ≤ u → Short z → expressible u (pos u *ᶻ z) ≡ true
unfolding expressible
times_expressible u z h s =
    ap₂ ◌&&◌ (eq-eqb (nat_abs (pos u *ᶻ z) % u) 0 (ap (λ m. m % u) (abs_times u z) ∙ mul-mod_right u (nat_abs z)))
    (ap fits16 (stored_times u z h) ∙ short_is z s)

-- ---- a value as two bytes
pub length_two : (u : ℕ) (z : ℤ) → length (old_value_written u z) ≡ 2
unfolding old_value_written two_bytes
length_two u z = refl

pub old_value_back : (u : ℕ) (z : ℤ) → expressible u z ≡ true → old_value_read u (old_value_written u z) ≡ z
unfolding old_value_read old_value_written expressible
old_value_back u z e =
    let t : T (eqb (nat_abs z % u) 0 && fits16 (stored u z)) = so e in
    let s = short_if (stored u z) (and_r (eqb (nat_abs z % u) 0) (fits16 (stored u z)) t) in
    let m = eqb→eq (nat_abs z % u) 0 (and_l (eqb (nat_abs z % u) 0) (fits16 (stored u z)) t) in
    ap (λ w. pos u *ᶻ short_signed w) (bytes_short (short_word (stored u z)) (short_small (stored u z) s))
    ∙ ap (λ s. pos u *ᶻ s) (word_short (stored u z) s) ∙ times_stored u z m

pub old_bytes_back : (u a b : ℕ) → 1 ≤ u → a < 256 → b < 256 → old_value_written u (old_value_read u (a ∷ b ∷ [])) ≡ a ∷ b ∷ []
unfolding old_value_read old_value_written
old_bytes_back u a b h ha hb =
    ap (λ z. two_bytes (short_word z)) (stored_times u (short_signed (most_first 0 (a ∷ b ∷ []))) h)
    ∙ ap two_bytes (short_word_lem (most_first 0 (a ∷ b ∷ [])) (short_below a b ha hb)) ∙ short_bytes a b ha hb

-- ---- a row of values, each w bytes wide: read by `read`, written by `write`
module _ (w : ℕ) (read : List ℕ → ℤ) (write : ℤ → List ℕ) where
  abbrev pub row_of : ℕ → List ℕ → List ℤ
  row_of n bs = tab n (λ c. read (take w (drop (w * c) bs)))

  -- one value more in front
  row_more : (n : ℕ) (front rest : List ℕ) → length front ≡ w → row_of (suc n) (front ++ rest) ≡ read front ∷ row_of n rest
  unfolding tab
  row_more n front rest e =
      let z : w * 0 ≡ 0 = omega arith in
      ap₂ (λ x l. x ∷ l) (ap read (ap (λ k. take w (drop k (front ++ rest))) z ∙ take_at front rest w e))
      (tab_same n (λ c. read (take w (drop (w * suc c) (front ++ rest)))) (λ c. read (take w (drop (w * c) rest)))
      (λ c l. ap (λ r. read (take w r)) (later c)))
    where
      later : (c : ℕ) → drop (w * suc c) (front ++ rest) ≡ drop (w * c) rest
      later c = let q : w * suc c ≡ length front + w * c = omega arith in ap (λ k. drop k (front ++ rest)) q ∙ drop-append-add front rest (w * c)

  module _ (wide : (z : ℤ) → length (write z) ≡ w) where
    pub length_rows : (vs : List ℤ) → length (flat_map write vs) ≡ w * length vs
    unfolding flat_map
    length_rows [] = omega arith
    length_rows (v ∷ vs) =
        let e = length-append (write v) (flat_map write vs) in
        let f = length_rows vs in
        let g = wide v in
        omega arith

    -- written and read, with anything after them
    pub rows_back : (vs : List ℤ) (rest : List ℕ) → ((c : ℕ) → c < length vs → read (write (get_or vs c (pos 0))) ≡ get_or vs c (pos 0))
        → row_of (length vs) (flat_map write vs ++ rest) ≡ vs
    unfolding flat_map tab
    rows_back [] rest h = refl
    rows_back (v ∷ vs) rest h =
        ap (row_of (suc (length vs))) (append_assoc (write v) (flat_map write vs) rest)
        ∙ row_more (length vs) (write v) (flat_map write vs ++ rest) (wide v)
        ∙ ap₂ (λ x l. x ∷ l) (h 0 (omega arith)) (rows_back vs rest (λ c l. h (suc c) (suc-le-suc l)))

  -- read and written
  pub back_rows : (n : ℕ) (bs : List ℕ) → w * n ≤ length bs
      → ((c : ℕ) → c < n → write (read (take w (drop (w * c) bs))) ≡ take w (drop (w * c) bs)) → flat_map write (row_of n bs) ≡ take (w * n) bs
  unfolding flat_map tab
  back_rows zero bs e h = let z : 0 ≡ w * 0 = omega arith in ap (λ k. take k bs) z
  back_rows (suc n) bs e h =
      let l : length (take w bs) ≡ w = length-take-le w bs (omega arith) in
      let m : w * n ≤ length (drop w bs) = omega (arith, length-drop w bs) in
      let z : w * 0 ≡ 0 = omega arith in
      let q : w + w * n ≡ w * suc n = omega arith in
      ap (λ x. flat_map write (row_of (suc n) x)) (sym (take-append-drop w bs))
      ∙ ap (flat_map write) (row_more n (take w bs) (drop w bs) l)
      ∙ ap₂ (λ x y. x ++ y) (subst (λ k. write (read (take w (drop k bs))) ≡ take w (drop k bs)) z (h 0 (omega arith)))
      (back_rows n (drop w bs) m (λ c k. subst (λ r. write (read (take w r)) ≡ take w r) (later c) (h (suc c) (suc-le-suc k))))
      ∙ sym (take-add w (w * n) bs) ∙ ap (λ k. take k bs) q
    where
      later : (c : ℕ) → drop (w * suc c) bs ≡ drop (w * c) (drop w bs)
      later c = let q : w * suc c ≡ w + w * c = omega arith in ap (λ k. drop k bs) q ∙ sym (drop-drop (w * c) w bs)

-- two bytes of a list, by name
pub two_at : (bs : List ℕ) (k : ℕ) → k + 2 ≤ length bs → take 2 (drop k bs) ≡ get_or bs k 0 ∷ get_or bs (k + 1) 0 ∷ []
two_at bs k h =
    let e : suc k ≡ k + 1 = omega arith in
    ap (take 2) (drop-cons bs k 0 (omega arith) ∙ ap (λ l. get_or bs k 0 ∷ l) (drop-cons bs (suc k) 0 (omega arith)))
    ∙ ap (λ i. get_or bs k 0 ∷ get_or bs i 0 ∷ []) e
