-- Decimal numbers: a number written and read is the number, and digits read and written are the digits. Assumes
-- nothing.
use mathlib.Core.Path.{◌≡◌, refl, sym, ap, ap₂, subst, ◌∙◌}
use mathlib.Core.Logic.{◌⊎◌, inl, inr, ⊎_elim}
use mathlib.Core.Bool.{Bool, true, false, not, ◌&&◌, ◌||◌}
use mathlib.Core.List.{List, [], ◌∷◌, ◌++◌, append_assoc}
use Prim.Native.Nat.{ℕ, zero, suc, ◌+◌, ◌-◌, ◌*◌, ◌/◌, ◌%◌, ◌^◌, ◌<◌, ◌≤◌}
use native.Mathlib.Nat.{pow-succ', pow-le-pow_right, le_trans, le_of_eq, lt_of_lt_of_le, mul-le-mul_right, mul_assoc, one-mul}
use native.Mathlib.Omega.{arith}
use lib.Dec.{leb, eqb, leb→le, eqb→eq, T_not}
use lib.ListN.{length, get_or, take, length-append}
use borrow.Author.Tests.{le-leb, eq-eqb, ne_eqb}
use Rattle.method.specs.Cast.{between}
use Rattle.method.specs.Numbers.{last_digit, spelled, decimal, is_digit, digits, is_number, value_of}
use Rattle.laws.proofs.Naturals.{le_or_lt}
use Rattle.laws.proofs.Bools.{and_l, and_r, or_cases, so}

-- ---- a number spelled: one digit, or the digits of its tenth and one more
pick : ℕ → List ℕ → List ℕ → List ℕ
pick zero short long = short
pick (suc m) short long = long

pick_zero : {q : ℕ} (short long : List ℕ) → q ≡ 0 → pick q short long ≡ short
unfolding pick
pick_zero short long e = ap (λ q. pick q short long) e

pick_suc : (q : ℕ) (short long : List ℕ) → 0 < q → pick q short long ≡ long
unfolding pick
pick_suc zero short long h = absurd (omega arith)
pick_suc (suc m) short long h = refl

spelled_suc : (k n : ℕ) → spelled (suc k) n ≡ pick (n / 10) (last_digit n) (spelled k (n / 10) ++ last_digit n)
unfolding spelled pick
spelled_suc k n = go (n / 10)
  where
    go : (q : ℕ) → elim q [ zero ↦ last_digit n | suc m ↦ spelled k (n / 10) ++ last_digit n ] ≡ pick q (last_digit n) (spelled k (n / 10) ++ last_digit n)
    go zero = refl
    go (suc q) = refl

spelled_short : (k n : ℕ) → n < 10 → spelled k n ≡ last_digit n
unfolding spelled
spelled_short zero n h = refl
spelled_short (suc k) n h = spelled_suc k n ∙ pick_zero _ _ (omega arith)

spelled_long : (k n : ℕ) → 10 ≤ n → spelled (suc k) n ≡ spelled k (n / 10) ++ last_digit n
spelled_long k n h = spelled_suc k n ∙ pick_suc (n / 10) _ _ (omega arith)

-- more fuel than the number's size changes nothing
enough : (k j n : ℕ) → n ≤ k → n ≤ j → spelled k n ≡ spelled j n
enough zero j n h i = spelled_short zero n (omega arith) ∙ sym (spelled_short j n (omega arith))
enough (suc k) zero n h i = spelled_short (suc k) n (omega arith) ∙ sym (spelled_short zero n (omega arith))
enough (suc k) (suc j) n h i =
    ⊎_elim
    (λ big. spelled_long k n big ∙ ap (λ l. l ++ last_digit n) (enough k j (n / 10) (omega arith) (omega arith)) ∙ sym (spelled_long j n big))
    (λ small. spelled_short (suc k) n small ∙ sym (spelled_short (suc j) n small))
    (le_or_lt 10 n)

pub decimal_short : (n : ℕ) → n < 10 → decimal n ≡ (48 + n) ∷ []
unfolding decimal last_digit
decimal_short n h = spelled_short n n h ∙ ap (λ d. (48 + d) ∷ []) (omega arith)

-- one digit more
pub decimal_more : (v d : ℕ) → 0 < v → d < 10 → decimal (10 * v + d) ≡ decimal v ++ ((48 + d) ∷ [])
unfolding decimal last_digit
decimal_more v d h i = go (10 * v + d) (omega arith) (omega arith) (omega arith)
  where
    go : (n : ℕ) → 10 ≤ n → n / 10 ≡ v → n % 10 ≡ d → spelled n n ≡ spelled v v ++ ((48 + d) ∷ [])
    go zero a b c = absurd (omega arith)
    go (suc k) a b c =
        spelled_long k (suc k) a
        ∙ ap₂ (λ l e. l ++ ((48 + e) ∷ [])) (enough k (suc k / 10) (suc k / 10) (omega arith) (omega arith) ∙ ap (λ q. spelled q q) b) c

-- induction over the digits of a number
module _ (P : ℕ → List ℕ → Type 0) (base : (d : ℕ) → d < 10 → P d ((48 + d) ∷ []))
    (more : (v d : ℕ) → 0 < v → d < 10 → P v (decimal v) → P (10 * v + d) (decimal v ++ ((48 + d) ∷ []))) where
  below : (k n : ℕ) → n ≤ k → P n (decimal n)
  below zero n h = subst (P n) (sym (decimal_short n (omega arith))) (base n (omega arith))
  below (suc k) n h =
      ⊎_elim
      (λ big. let e : 10 * (n / 10) + n % 10 ≡ n = omega arith in
      let p : P (10 * (n / 10) + n % 10) (decimal (10 * (n / 10) + n % 10)) =
      subst (P (10 * (n / 10) + n % 10)) (sym (decimal_more (n / 10) (n % 10) (omega arith) (omega arith)))
      (more (n / 10) (n % 10) (omega arith) (omega arith) (below k (n / 10) (omega arith))) in
      subst (λ m. P m (decimal m)) e p)
      (λ small. subst (P n) (sym (decimal_short n small)) (base n small))
      (le_or_lt 10 n)

  by_digits : (n : ℕ) → P n (decimal n)
  by_digits n = below n n (omega arith)

-- ---- every byte is a digit
abbrev pub Digit : ℕ → Type 0
Digit b = (48 ≤ b) × (b ≤ 57)

abbrev pub AllDigits : List ℕ → Type 0
AllDigits [] = Unit {0}
AllDigits (b ∷ bs) = Digit b × AllDigits bs

all_more : (ds : List ℕ) (b : ℕ) → AllDigits ds → Digit b → AllDigits (ds ++ (b ∷ []))
all_more [] b a h = (h, tt)
all_more (d ∷ ds) b a h = (a.0, all_more ds b a.1 h)

pub decimal_digits : (n : ℕ) → AllDigits (decimal n)
decimal_digits n =
    by_digits (λ n ds. AllDigits ds) (λ d h. (omega arith, tt)) (λ v d h i a. all_more (decimal v) (48 + d) a (omega arith)) n

-- ---- digits read
is_digit_lem : (b : ℕ) → Digit b → is_digit b ≡ true
unfolding is_digit between
is_digit_lem b h = ap₂ ◌&&◌ (le-leb 48 b h.0) (le-leb b 57 h.1)

digit_is : (b : ℕ) → is_digit b ≡ true → Digit b
unfolding is_digit between
digit_is b e = (leb→le 48 b (and_l (leb 48 b) (leb b 57) (so e)), leb→le b 57 (and_r (leb 48 b) (leb b 57) (so e)))

onward : Bool → ℕ → List ℕ → List ℕ
onward true b ds = b ∷ ds
onward false b ds = []

digits_cons : (b : ℕ) (bs : List ℕ) → digits (b ∷ bs) ≡ onward (is_digit b) b (digits bs)
unfolding digits onward
digits_cons b bs = go (is_digit b)
  where
    go : (t : Bool) → elim t [ true ↦ b ∷ digits bs | false ↦ [] ] ≡ onward t b (digits bs)
    go true = refl
    go false = refl

-- digits are read up to the first byte that is none
pub digits_stop : (ds : List ℕ) (x : ℕ) (rest : List ℕ) → AllDigits ds → is_digit x ≡ false → digits (ds ++ (x ∷ rest)) ≡ ds
unfolding onward
digits_stop [] x rest a e = digits_cons x rest ∙ ap (λ t. onward t x (digits rest)) e
digits_stop (d ∷ ds) x rest a e =
    digits_cons d (ds ++ (x ∷ rest)) ∙ ap₂ (λ t l. onward t d l) (is_digit_lem d a.0) (digits_stop ds x rest a.1 e)

-- a number's digits end before a byte that is none
pub decimal_stop : (n x : ℕ) (rest : List ℕ) → is_digit x ≡ false → digits (decimal n ++ (x ∷ rest)) ≡ decimal n
decimal_stop n x rest e = digits_stop (decimal n) x rest (decimal_digits n) e

-- what is read are digits
pub digits_digits : (bs : List ℕ) → AllDigits (digits bs)
unfolding digits onward
digits_digits [] = tt
digits_digits (b ∷ bs) = subst AllDigits (sym (digits_cons b bs)) (go (is_digit b) refl (digits_digits bs))
  where
    go : (t : Bool) → is_digit b ≡ t → AllDigits (digits bs) → AllDigits (onward t b (digits bs))
    go true e a = (digit_is b e, a)
    go false e a = tt

-- they stand at the front
pub digits_front : (bs : List ℕ) → take (length (digits bs)) bs ≡ digits bs
unfolding digits onward
digits_front [] = refl
digits_front (b ∷ bs) = subst (λ ds. take (length ds) (b ∷ bs) ≡ ds) (sym (digits_cons b bs)) (go (is_digit b) (digits_front bs))
  where
    go : (t : Bool) → take (length (digits bs)) bs ≡ digits bs → take (length (onward t b (digits bs))) (b ∷ bs) ≡ onward t b (digits bs)
    go true e = ap (λ l. b ∷ l) e
    go false e = refl

-- ---- the value of what is written
value_more : (v : ℕ) (ds : List ℕ) (b : ℕ) → value_of v (ds ++ (b ∷ [])) ≡ 10 * value_of v ds + (b - 48)
unfolding value_of
value_more v [] b = refl
value_more v (d ∷ ds) b = value_more (10 * v + (d - 48)) ds b

pub value_decimal : (n : ℕ) → value_of 0 (decimal n) ≡ n
unfolding value_of
value_decimal n =
    by_digits (λ n ds. value_of 0 ds ≡ n) (λ d h. omega arith)
    (λ v d h i e. value_more 0 (decimal v) (48 + d) ∙ omega arith) n

-- ---- and what is written of a value
after_first : (v : ℕ) (ds : List ℕ) → 0 < v → AllDigits ds → decimal (value_of v ds) ≡ decimal v ++ ds
unfolding value_of
after_first v [] h a = go (decimal v)
  where
    go : (l : List ℕ) → l ≡ l ++ []
    go [] = refl
    go (x ∷ l) = ap (λ r. x ∷ r) (go l)
after_first v (b ∷ ds) h a =
    after_first (10 * v + (b - 48)) ds (omega arith) a.1
    ∙ ap (λ l. l ++ ds) (decimal_more v (b - 48) h (omega arith))
    ∙ append_assoc (decimal v) ((48 + (b - 48)) ∷ []) ds
    ∙ ap (λ x. decimal v ++ (x ∷ ds)) (omega arith)

-- no leading zero but in the one digit 0
pub record Number (ds : List ℕ) : Type 0 where
  pub some : 1 ≤ length ds
  pub few : length ds ≤ 7
  pub plain : (length ds ≡ 1) ⊎ (get_or ds 0 0 ≡ 48 → ⊥)

number_is : (ds : List ℕ) → is_number ds ≡ true → Number ds
unfolding is_number between
number_is ds e =
    let t = so e in
    let range = and_l (leb 1 (length ds) && leb (length ds) 7) (eqb (length ds) 1 || not (eqb (get_or ds 0 0) 48)) t in
    record {
      some = leb→le 1 (length ds) (and_l (leb 1 (length ds)) (leb (length ds) 7) range);
      few = leb→le (length ds) 7 (and_r (leb 1 (length ds)) (leb (length ds) 7) range);
      plain = ⊎_elim (λ a. inl (eqb→eq (length ds) 1 a)) (λ a. inr (λ q. T_not (eqb (get_or ds 0 0) 48) a (rw q tt)))
          (or_cases (eqb (length ds) 1) (not (eqb (get_or ds 0 0) 48)) (and_r (leb 1 (length ds) && leb (length ds) 7) (eqb (length ds) 1 || not (eqb (get_or ds 0 0) 48)) t));
    }

-- the digits of a number within 10^k are at most k, and its first is no 0 unless it is 0
short : (n : ℕ) (k : ℕ) → 0 < k → n < 10 ^ k → length (decimal n) ≤ k
short n =
    by_digits (λ n ds. (k : ℕ) → 0 < k → n < 10 ^ k → length ds ≤ k) (λ d h k i l. omega arith) (λ v d h i f k j l. go v d h i f k j l) n
  where
    go : (v d : ℕ) → 0 < v → d < 10 → ((k : ℕ) → 0 < k → v < 10 ^ k → length (decimal v) ≤ k) → (k : ℕ) → 0 < k → 10 * v + d < 10 ^ k
        → length (decimal v ++ ((48 + d) ∷ [])) ≤ k
    go v d h i f zero j l = absurd (omega arith)
    go v d h i f (suc zero) j l = absurd (omega arith)
    go v d h i f (suc (suc k)) j l =
        let e = pow-succ' 10 (suc k) in
        let r = f (suc k) (omega arith) (omega arith) in
        omega (arith, length-append (decimal v) ((48 + d) ∷ []))

record Lead (n : ℕ) (ds : List ℕ) : Type 0 where
  pub some : 1 ≤ length ds
  pub lead : 0 < n → 48 < get_or ds 0 0
  pub one : n < 10 → length ds ≡ 1

lead_more : (v b : ℕ) (ds : List ℕ) → 0 < v → Lead v ds → (48 < get_or (ds ++ (b ∷ [])) 0 0) × (1 ≤ length (ds ++ (b ∷ [])))
lead_more v b [] h l = absurd (omega (arith, l.some))
lead_more v b (d ∷ ds) h l = (l.lead h, omega arith)

leads : (n : ℕ) → Lead n (decimal n)
leads n =
    by_digits Lead (λ d h. record { some = omega arith; lead = λ i. omega arith; one = λ i. refl })
    (λ v d h i l. let m = lead_more v (48 + d) (decimal v) h l in record { some = m.1; lead = λ i. m.0; one = λ i. absurd (omega arith) }) n

is_number_lem : (ds : List ℕ) → Number ds → is_number ds ≡ true
unfolding is_number between
is_number_lem ds r = ap₂ ◌&&◌ (ap₂ ◌&&◌ (le-leb 1 (length ds) r.some) (le-leb (length ds) 7 r.few)) (go r.plain)
  where
    go : (length ds ≡ 1) ⊎ (get_or ds 0 0 ≡ 48 → ⊥) → (eqb (length ds) 1 || not (eqb (get_or ds 0 0) 48)) ≡ true
    go (inl e) = ap (λ t. t || not (eqb (get_or ds 0 0) 48)) (eq-eqb (length ds) 1 e)
    go (inr f) = either (eqb (length ds) 1) (ap not (ne_eqb (get_or ds 0 0) 48 f))
      where
        either : (a : Bool) {b : Bool} → b ≡ true → (a || b) ≡ true
        either true e = refl
        either false e = e

pub decimal_number : (n : ℕ) → n < 10 ^ 7 → is_number (decimal n) ≡ true
decimal_number n h =
    let l = leads n in
    is_number_lem (decimal n) (record {
      some = l.some;
      few = short n 7 (omega arith) h;
      plain = ⊎_elim (λ big. inr (λ e. absurd (omega (arith, l.lead big)))) (λ small. inl (l.one (omega arith))) (le_or_lt 1 n);
    })

-- ---- digits of the form are the spelling of their value
value_first : (b : ℕ) (ds : List ℕ) → value_of 0 (b ∷ ds) ≡ value_of (b - 48) ds
unfolding value_of
value_first b ds = let e : 10 * 0 + (b - 48) ≡ b - 48 = omega arith in ap (λ v. value_of v ds) e

pub decimal_value : (ds : List ℕ) → AllDigits ds → is_number ds ≡ true → decimal (value_of 0 ds) ≡ ds
unfolding value_of
decimal_value [] a e = absurd (omega (arith, (number_is [] e).some))
decimal_value (b ∷ []) a e = ap decimal (value_first b []) ∙ decimal_short (b - 48) (omega arith) ∙ ap (λ x. x ∷ []) (omega arith)
decimal_value (b ∷ (c ∷ ds)) a e =
    ap decimal (value_first b (c ∷ ds))
    ∙ after_first (b - 48) (c ∷ ds) (nonzero (number_is (b ∷ (c ∷ ds)) e).plain) a.1
    ∙ ap (λ l. l ++ (c ∷ ds)) (decimal_short (b - 48) (omega arith))
    ∙ ap (λ x. x ∷ (c ∷ ds)) (omega arith)
  where
    nonzero : (suc (suc (length ds)) ≡ 1) ⊎ (b ≡ 48 → ⊥) → 0 < b - 48
    nonzero (inl q) = absurd (omega arith)
    nonzero (inr f) = ⊎_elim (λ low. absurd (f (omega arith))) (λ high. omega arith) (le_or_lt b 48)

-- and their value is below 10^7
value_below : (v : ℕ) (ds : List ℕ) → AllDigits ds → value_of v ds < suc v * 10 ^ length ds
unfolding value_of
value_below v [] a = omega arith
value_below v (b ∷ ds) a =
    let m : suc (10 * v + (b - 48)) ≤ suc v * 10 = omega arith in
    lt_of_lt_of_le (value_below (10 * v + (b - 48)) ds a.1)
    (le_trans (mul-le-mul_right (10 ^ length ds) m) (le_of_eq (mul_assoc (suc v) 10 (10 ^ length ds) ∙ ap (λ p. suc v * p) (sym (pow-succ' 10 (length ds))))))

pub value_small : (ds : List ℕ) → AllDigits ds → is_number ds ≡ true → value_of 0 ds < 10 ^ 7
value_small ds a e =
    let p : 10 ^ length ds ≤ 10 ^ 7 = pow-le-pow_right {n = 10} (omega arith) (number_is ds e).few in
    let r = value_below 0 ds a in
    omega (arith, one-mul (10 ^ length ds))
