-- Laws of decimal digits: counted, and put with the last digit last. Assumes nothing.
use mathlib.Core.Path.{◌≡◌, sym, ap, ◌∙◌}
use mathlib.Core.Logic.{⊎_elim}
use mathlib.Core.List.{List, [], ◌∷◌, ◌++◌}
use Rattle.std.specs.Prelude.{Option, None, Some, IfSome, IfNone, unwrap_or}
use Prim.Native.Nat.{ℕ, zero, suc, ◌+◌, ◌*◌, ◌/◌, ◌%◌, ◌^◌, ◌≤◌, ◌<◌}
use native.Mathlib.Nat.{mod-lt, pow-succ'}
use native.Mathlib.Omega.{arith}
use borrow.Author.Rules.{rules}
use lib.ListN.{length, length-append}
use Rattle.laws.proofs.Naturals.{le_or_lt}
use Rattle.method.specs.Numbers.{decimal}
use Rattle.theory.proofs.Digits.{decimal_short, decimal_more}
use Rattle.text_out.specs.Puts.{Put, DigitsOf}
use Rattle.text_out.proofs.PutLaws.{put_length, put_then}

pub last_digit_lem : (n : ℕ) → n % 10 < 10
last_digit_lem n = mod-lt n (omega arith)

decimal_large : (n : ℕ) → 10 ≤ n → decimal n ≡ decimal (n / 10) ++ ((48 + n % 10) ∷ [])
decimal_large n h =
    let e : n ≡ 10 * (n / 10) + n % 10 = omega arith in
    ap decimal e ∙ decimal_more (n / 10) (n % 10) (omega arith) (last_digit_lem n)

length_small : (n : ℕ) → n < 10 → length (decimal n) ≡ 1
length_small n h = ap length (decimal_short n h)

length_large : (n : ℕ) → 10 ≤ n → length (decimal n) ≡ length (decimal (n / 10)) + 1
length_large n h = ap length (decimal_large n h) ∙ length-append (decimal (n / 10)) ((48 + n % 10) ∷ [])

-- a number below ten to the k has at most k digits, where k is not zero
pub most_digits : (k n : ℕ) → n < 10 ^ suc k → length (decimal n) ≤ suc k
most_digits zero n h = omega (arith, length_small n h)
most_digits (suc k) n h = ⊎_elim
    (λ l. omega (arith, length_large n l, most_digits k (n / 10) (tenth n (10 ^ suc k) (rw (pow-succ' 10 (suc k)) at h))))
    (λ l. omega (arith, length_small n l))
    (le_or_lt 10 n)
  where
    tenth : (n m : ℕ) → n < 10 * m → n / 10 < m
    tenth n m h = omega arith

few_digits : (n : ℕ) → n < 2 ^ 64 → length (decimal n) ≤ 20
few_digits n h = most_digits 19 n (omega arith)

-- a number that is at least ten to the k has more than k digits
pub least_digits : (k n : ℕ) → 0 < n → 10 ^ k ≤ n → suc k ≤ length (decimal n)
least_digits zero n p h = ⊎_elim (λ l. omega (arith, length_large n l)) (λ l. omega (arith, length_small n l)) (le_or_lt 10 n)
least_digits (suc k) n p h =
    let f : 10 * 10 ^ k ≤ n = rw (pow-succ' 10 k) at h in
    let g : 10 ^ k ≤ n / 10 = omega (arith, f) in
    let o : 1 ≤ 10 ^ k = one_le_pow k in
    omega (arith, length_large n (omega (arith, f, o)), least_digits k (n / 10) (omega (arith, g, o)) g)
  where
    one_le_pow : (k : ℕ) → 1 ≤ 10 ^ k
    one_le_pow zero = omega arith
    one_le_pow (suc k) = rw (pow-succ' 10 k) (omega (arith, one_le_pow k))

-- so many digits, by the logarithm, where there is one
pub digits_counted : (n : ℕ) (o : Option ℕ) → n < 2 ^ 64 → IfNone o (n ≡ 0) → IfSome o (λ k. 10 ^ k ≤ n) → IfSome o (λ k. n < 10 * 10 ^ k) → DigitsOf n (1 + unwrap_or o 0)
digits_counted n None f z l m = record { is = sym (length_small n (omega (arith, z))); few = omega arith }
digits_counted n (Some k) f z l m =
    let p : 0 < n = omega (arith, l) in
    record {
      is = omega (arith, least_digits k n p l, most_digits k n (rw (pow-succ' 10 k) m));
      few = omega (arith, least_digits k n p l, few_digits n f);
    }

pub ruleset countings = (rules, digits_counted)

-- ---- a number put, its last digit last
pub put_small : (n : ℕ) (a b : List ℕ) (i j : ℕ) → n < 10 → Put ((48 + n % 10) ∷ []) a i b j → Put (decimal n) a i b j
put_small n a b i j h p = rw (decimal_short n h, ap (λ d. (48 + d) ∷ []) (small n h)) p
  where
    small : (n : ℕ) → n < 10 → n ≡ n % 10
    small n h = omega arith

pub put_large : (n : ℕ) (a b c : List ℕ) (i j k : ℕ) → 10 ≤ n → Put (decimal (n / 10)) a i b j → Put ((48 + n % 10) ∷ []) b j c k → Put (decimal n) a i c k
put_large n a b c i j k h p q = rw (decimal_large n h) (put_then p q)

pub small_room : (n i m : ℕ) → n < 10 → i + length (decimal n) ≤ m → i + 1 ≤ m
small_room n i m h r = omega (arith, length_small n h)

pub large_room_lem : (n i m : ℕ) → 10 ≤ n → i + length (decimal n) ≤ m → i + length (decimal (n / 10)) ≤ m
large_room_lem n i m h r = omega (arith, length_large n h)

pub last_room : (n : ℕ) (a b : List ℕ) (i j : ℕ) → 10 ≤ n → i + length (decimal n) ≤ length a → Put (decimal (n / 10)) a i b j → j + 1 ≤ length b
last_room n a b i j h r p = omega (arith, length_large n h, p.next, put_length p)

pub falls : (n t : ℕ) → 10 ≤ n → n ≡ t → n / 10 < t
falls n t h e = omega arith

pub ruleset decimals = (rules, put_small, put_large, small_room, large_room_lem, last_room, falls)
