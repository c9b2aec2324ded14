-- Values of four bytes: written and read, read and written, in both orders; and a row of them. Assumes nothing.
use mathlib.Core.Path.{◌≡◌, refl, sym, ap, ap₂, ◌∙◌}
use mathlib.Core.Logic.{⊎_elim}
use mathlib.Core.Bool.{cond}
use mathlib.Core.List.{List, [], ◌∷◌, ◌++◌, flat_map, reverse}
use Prim.Native.Nat.{ℕ, zero, suc, ◌+◌, ◌-◌, ◌*◌, ◌/◌, ◌%◌, ◌^◌, ◌<◌, suc-le-suc}
use native.Mathlib.Nat.{div-div-eq-div-mul, div-add-mod}
use native.Mathlib.Omega.{arith}
use lib.ListN.{length, get_or, take, drop, length-append}
use lib.Seq.{take_at, drop-append-add}
use lib.IntN.{ℤ, pos, negsuc, nat_abs}
use borrow.Author.Tests.{lt-ltb, le-ltb}
use Rattle.method.specs.declared.Order.{Order}
use Rattle.method.specs.declared.Order.TheVariants.{Big, Little}
use Rattle.method.specs.Form.{in_order, most_first, twos_complement, word_of, four_bytes, value_read, value_written}
use Rattle.laws.proofs.Fill.{tab_same}
use Rattle.laws.specs.Lists.{tab}
use Rattle.laws.proofs.Naturals.{le_or_lt}

-- ---- words: two's complement
-- z is from -2^31 to 2^31 - 1
abbrev pub InWord : ℤ → Type 0
InWord (pos n) = n < 2 ^ 31
InWord (negsuc n) = n < 2 ^ 31

pub in_word : (z : ℤ) → nat_abs z < 2 ^ 31 → InWord z
in_word (pos n) h = h
in_word (negsuc n) h = omega arith

pub word_value : (z : ℤ) → InWord z → twos_complement (word_of z) ≡ z
unfolding twos_complement word_of
word_value (pos n) h = ap (λ t. cond t (pos n) (negsuc (2 ^ 32 - suc n))) (lt-ltb n (2 ^ 31) h)
word_value (negsuc n) h =
    let h' : n < 2 ^ 31 = h in
    ap (λ t. cond t (pos (2 ^ 32 - suc n)) (negsuc (2 ^ 32 - suc (2 ^ 32 - suc n)))) (le-ltb (2 ^ 32 - suc n) (2 ^ 31) (omega arith))
    ∙ ap negsuc (omega arith)

pub value_word : (w : ℕ) → w < 2 ^ 32 → word_of (twos_complement w) ≡ w
unfolding twos_complement word_of
value_word w h =
    ⊎_elim
    (λ high. ap (λ t. word_of (cond t (pos w) (negsuc (2 ^ 32 - suc w)))) (le-ltb w (2 ^ 31) high) ∙ omega arith)
    (λ low. ap (λ t. word_of (cond t (pos w) (negsuc (2 ^ 32 - suc w)))) (lt-ltb w (2 ^ 31) low))
    (le_or_lt (2 ^ 31) w)

pub word_small : (z : ℤ) → InWord z → word_of z < 2 ^ 32
unfolding word_of
word_small (pos n) h = let h' : n < 2 ^ 31 = h in omega arith
word_small (negsuc n) h = let h' : n < 2 ^ 31 = h in omega arith

-- ---- a word as four bytes
pub bytes_word : (w : ℕ) → w < 2 ^ 32 → most_first 0 (four_bytes w) ≡ w
unfolding most_first four_bytes
bytes_word w h =
    let e : w / 2 ^ 8 / 256 ≡ w / 2 ^ 16 = div-div-eq-div-mul w (2 ^ 8) 256 in
    let f : w / 2 ^ 16 / 256 ≡ w / 2 ^ 24 = div-div-eq-div-mul w (2 ^ 16) 256 in
    join w (w / 2 ^ 8) (w / 2 ^ 16) (w / 2 ^ 24) (w % 256) (w / 2 ^ 8 % 256) (w / 2 ^ 16 % 256) (w / 2 ^ 24 % 256)
    (div-add-mod w 256) (ap (λ q. 256 * q + w / 2 ^ 8 % 256) (sym e) ∙ div-add-mod (w / 2 ^ 8) 256)
    (ap (λ q. 256 * q + w / 2 ^ 16 % 256) (sym f) ∙ div-add-mod (w / 2 ^ 16) 256) (omega arith)
  where
    join : (w q₁ q₂ q₃ r₀ r₁ r₂ r₃ : ℕ) → 256 * q₁ + r₀ ≡ w → 256 * q₂ + r₁ ≡ q₁ → 256 * q₃ + r₂ ≡ q₂ → r₃ ≡ q₃
        → 256 * (256 * (256 * (256 * 0 + r₃) + r₂) + r₁) + r₀ ≡ w
    join w q₁ q₂ q₃ r₀ r₁ r₂ r₃ a b c d = omega arith

pub word_bytes : (a b c d : ℕ) → a < 256 → b < 256 → c < 256 → d < 256
    → four_bytes (most_first 0 (a ∷ b ∷ c ∷ d ∷ [])) ≡ a ∷ b ∷ c ∷ d ∷ []
unfolding most_first four_bytes
word_bytes a b c d ha hb hc hd =
    four (omega arith) (omega arith) (omega arith) (omega arith)
  where
    four : {p q r s p' q' r' s' : ℕ} → p ≡ p' → q ≡ q' → r ≡ r' → s ≡ s' → p ∷ q ∷ r ∷ s ∷ [] ≡ p' ∷ q' ∷ r' ∷ s' ∷ []
    four e f g h = cc

word_below : (a b c d : ℕ) → a < 256 → b < 256 → c < 256 → d < 256 → most_first 0 (a ∷ b ∷ c ∷ d ∷ []) < 2 ^ 32
unfolding most_first
word_below a b c d ha hb hc hd = omega arith

-- ---- a value as four bytes, in either order
pub value_back : (o : Order) (z : ℤ) → InWord z → value_read o (value_written o z) ≡ z
unfolding value_read value_written in_order four_bytes
value_back Big z h = ap twos_complement (bytes_word (word_of z) (word_small z h)) ∙ word_value z h
value_back Little z h = ap twos_complement (bytes_word (word_of z) (word_small z h)) ∙ word_value z h

pub length_written : (o : Order) (z : ℤ) → length (value_written o z) ≡ 4
unfolding value_written in_order four_bytes
length_written Big z = refl
length_written Little z = refl

big_back : (a b c d : ℕ) → a < 256 → b < 256 → c < 256 → d < 256
    → four_bytes (word_of (twos_complement (most_first 0 (a ∷ b ∷ c ∷ d ∷ [])))) ≡ a ∷ b ∷ c ∷ d ∷ []
big_back a b c d ha hb hc hd = ap four_bytes (value_word (most_first 0 (a ∷ b ∷ c ∷ d ∷ [])) (word_below a b c d ha hb hc hd)) ∙ word_bytes a b c d ha hb hc hd

pub bytes_back : (o : Order) (a b c d : ℕ) → a < 256 → b < 256 → c < 256 → d < 256
    → value_written o (value_read o (a ∷ b ∷ c ∷ d ∷ [])) ≡ a ∷ b ∷ c ∷ d ∷ []
unfolding value_read value_written in_order
bytes_back Big a b c d ha hb hc hd = big_back a b c d ha hb hc hd
bytes_back Little a b c d ha hb hc hd = ap reverse (big_back d c b a hd hc hb ha)

-- ---- a row of values
-- the values of a body that has nothing before them
abbrev pub row : Order → ℕ → List ℕ → List ℤ
row o n bs = tab n (λ c. value_read o (take 4 (drop (4 * c) bs)))

-- one value more in front
row_more : (o : Order) (n : ℕ) (four rest : List ℕ) → length four ≡ 4 → row o (suc n) (four ++ rest) ≡ value_read o four ∷ row o n rest
unfolding tab
row_more o n four rest e =
    ap₂ (λ x l. x ∷ l) (ap (value_read o) (take_at four rest 4 e))
    (tab_same n (λ c. value_read o (take 4 (drop (4 * suc c) (four ++ rest)))) (λ c. value_read o (take 4 (drop (4 * c) rest)))
    (λ c l. ap (λ r. value_read o (take 4 r)) (later c)))
  where
    later : (c : ℕ) → drop (4 * suc c) (four ++ rest) ≡ drop (4 * c) rest
    later c = let q : 4 * suc c ≡ length four + 4 * c = omega arith in ap (λ k. drop k (four ++ rest)) q ∙ drop-append-add four rest (4 * c)

pub length_row : (o : Order) (vs : List ℤ) → length (flat_map (value_written o) vs) ≡ 4 * length vs
unfolding flat_map
length_row o [] = refl
length_row o (v ∷ vs) =
    let e = length-append (value_written o v) (flat_map (value_written o) vs) in
    let f = length_row o vs in
    let g = length_written o v in
    omega arith

-- written and read
pub row_back : (o : Order) (vs : List ℤ) → ((c : ℕ) → c < length vs → nat_abs (get_or vs c (pos 0)) < 2 ^ 31)
    → row o (length vs) (flat_map (value_written o) vs) ≡ vs
unfolding flat_map tab
row_back o [] h = refl
row_back o (v ∷ vs) h =
    row_more o (length vs) (value_written o v) (flat_map (value_written o) vs) (length_written o v)
    ∙ ap₂ (λ x l. x ∷ l) (value_back o v (in_word v (h 0 (omega arith)))) (row_back o vs (λ c l. h (suc c) (suc-le-suc l)))

-- read and written
pub back_row : (o : Order) (n : ℕ) (bs : List ℕ) → length bs ≡ 4 * n → ((i : ℕ) → get_or bs i 0 < 256) → flat_map (value_written o) (row o n bs) ≡ bs
unfolding flat_map tab
back_row o zero [] e h = refl
back_row o zero (a ∷ bs) e h = absurd (omega arith)
back_row o (suc n) [] e h = absurd (omega arith)
back_row o (suc n) (a ∷ []) e h = absurd (omega arith)
back_row o (suc n) (a ∷ (b ∷ [])) e h = absurd (omega arith)
back_row o (suc n) (a ∷ (b ∷ (c ∷ []))) e h = absurd (omega arith)
back_row o (suc n) (a ∷ (b ∷ (c ∷ (d ∷ bs)))) e h =
    ap (flat_map (value_written o)) (row_more o n (a ∷ b ∷ c ∷ d ∷ []) bs refl)
    ∙ ap₂ (λ x y. x ++ y) (bytes_back o a b c d (h 0) (h 1) (h 2) (h 3)) (back_row o n bs (omega arith) (λ i. h (suc (suc (suc (suc i))))))
