-- Laws of bytes that are put one part after the other. Assumes nothing.
use mathlib.Core.Path.{◌≡◌, refl, sym, ap, ap₂, ◌∙◌}
use mathlib.Core.List.{List, [], ◌∷◌, ◌++◌}
use Prim.Native.Nat.{ℕ, suc, ◌+◌, ◌≤◌, ◌<◌}
use native.Mathlib.Numerals.{add-one}
use native.Mathlib.Omega.{arith}
use borrow.Author.Rules.{rules}
use lib.ListN.{length, get_or, take, set, length-append, length-set}
use lib.Seq.{sets, length-sets, take-suc, take_all, length-take-le}
use Rattle.laws.specs.Text.{text}
use Rattle.method.specs.Numbers.{decimal}
use Rattle.method.specs.Form.{line}
use Rattle.text_out.specs.Puts.{Put}

-- ---- one part after the other
sets_append : (l xs ys : List ℕ) (i : ℕ) → sets l i (xs ++ ys) ≡ sets (sets l i xs) (i + length xs) ys
sets_append l [] ys i = ap (λ k. sets l k ys) (omega arith)
sets_append l (x ∷ xs) ys i = sets_append (set l i x) xs ys (suc i) ∙ ap (λ k. sets (sets (set l i x) (suc i) xs) k ys) (omega arith)

pub put_length : {xs a b : List ℕ} {i j : ℕ} → Put xs a i b j → length b ≡ length a
put_length {xs} {a} {b} {i} {j} h = ap length h.is ∙ length-sets a i xs

pub put_then : {xs ys a b c : List ℕ} {i j k : ℕ} → Put xs a i b j → Put ys b j c k → Put (xs ++ ys) a i c k
put_then {xs} {ys} {a} {b} {c} {i} {j} {k} h g = record {
  is = g.is ∙ ap₂ (λ l n. sets l n ys) h.is h.next ∙ sym (sets_append a xs ys i);
  next = omega (arith, g.next, h.next, length-append xs ys);
}

-- what is left of the room
pub put_room : (xs ys a b : List ℕ) (i j : ℕ) → Put xs a i b j → i + length (xs ++ ys) ≤ length a → j + length ys ≤ length b
put_room xs ys a b i j h r = omega (arith, h.next, put_length h, length-append xs ys)

pub front_room : (xs ys : List ℕ) (i m : ℕ) → i + length (xs ++ ys) ≤ m → i + length xs ≤ m
front_room xs ys i m r = omega (arith, length-append xs ys)

-- ---- bytes, one store a turn
pub record Copied (bytes old : List ℕ) (at i : ℕ) (new : List ℕ) : Type 0 where
  pub is : new ≡ sets old at (take i bytes)

pub copied_none : (bytes old : List ℕ) (at : ℕ) → Copied bytes old at 0 old
copied_none bytes old at = record { is = refl }

pub copied_more : (bytes old new : List ℕ) (at i : ℕ) → i < length bytes → Copied bytes old at i new → Copied bytes old at (i + 1) (set new (at + i) (get_or bytes i 0))
copied_more bytes old new at i l h =
    let e : length (take i bytes) ≡ i = length_front in
    record {
      is = sym (ap (sets old at) (ap (λ k. take k bytes) (add-one i) ∙ take-suc bytes i 0 l) ∙ sets_append old (take i bytes) (get_or bytes i 0 ∷ []) at
          ∙ ap₂ (λ s k. set s (at + k) (get_or bytes i 0)) (sym h.is) e);
    }
  where
    length_front : length (take i bytes) ≡ i
    length_front = length-take-le i bytes (omega arith)

pub copied_all : (bytes old new : List ℕ) (at i : ℕ) → i ≤ length bytes → length bytes ≤ i → Copied bytes old at i new → Put bytes old at new (at + length bytes)
copied_all bytes old new at i a b h = record { is = h.is ∙ ap (sets old at) (take_all i bytes b); next = refl }

pub copied_room : (at i m n k : ℕ) → i < m → at + m ≤ n → k ≡ n → at + i < k
copied_room at i m n k a b c = omega arith

pub ruleset copies = (rules, copied_none, copied_more, copied_all, copied_room, length-set)

-- what was lent comes back: it holds what the sink holds that still has it
pub comes_back : {N : Type 0} {n m : N} {bytes old x y : List ℕ} {i j : ℕ} → m ≡ n → Put bytes old i y j → (n ≡ m → x ≡ y) → Put bytes old i x j
comes_back same p back = rw (back (sym same)) p

-- ---- three parts, one after the other
module _ (xs ys zs a : List ℕ) (i : ℕ) (r : i + length (xs ++ ys ++ zs) ≤ length a) where
  both : i + length (xs ++ ys) ≤ length a
  both = front_room (xs ++ ys) zs i (length a) r

  pub first_room : i + length xs ≤ length a
  first_room = front_room xs ys i (length a) both

  module _ (b : List ℕ) (j : ℕ) (p : Put xs a i b j) where
    pub second_room : j + length ys ≤ length b
    second_room = put_room xs ys a b i j p both

    pub third_room : (c : List ℕ) (k : ℕ) → Put ys b j c k → k + length zs ≤ length c
    third_room c k q = put_room (xs ++ ys) zs a c i k (put_then p q) r

pub all_put : (xs ys zs a b c d : List ℕ) (i j k m : ℕ) → Put xs a i b j → Put ys b j c k → Put zs c k d m → Put (xs ++ ys ++ zs) a i d m
all_put xs ys zs a b c d i j k m p q u = put_then (put_then p q) u

-- a line of a key and a number: key, number, line feed
pub line_room : (key : List ℕ) (n : ℕ) (a : List ℕ) (i : ℕ) → i + length (line key (decimal n)) ≤ length a → i + length (key ++ decimal n ++ text "\n") ≤ length a
unfolding line
line_room key n a i r = r

pub line_put : (key : List ℕ) (n : ℕ) (a b : List ℕ) (i j : ℕ) → Put (key ++ decimal n ++ text "\n") a i b j → Put (line key (decimal n)) a i b j
unfolding line
line_put key n a b i j p = p

pub ruleset parts = (rules, first_room, second_room, third_room, all_put)

pub ruleset lines = (rules, line_room, line_put)
