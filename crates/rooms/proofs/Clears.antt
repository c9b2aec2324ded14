-- Rooms whose front is made zero, and what they need. Assumes nothing.
use Prim.Native.Nat.{ℕ, zero, suc, ◌+◌, ◌-◌, ◌*◌, ◌≤◌, ◌<◌}
use mathlib.Core.Path.{◌≡◌, refl, sym, ap, ◌∙◌}
use mathlib.Core.List.{List, [], ◌∷◌, ◌++◌, append-nil}
use native.Mathlib.Omega.{arith}
use borrow.Author.Rules.{rules}
use borrow.Rule.Slice.PartMut.{mid_of, put_mid}
use lib.ListN.{length, set, take, drop, replicate, length-drop, drop_of_length-le}
use lib.Seq.{drop_at, drop-drop, take_all}
use lib.Ieee.{Float, binary64, of_bits, of_fields}
use Rattle.laws.specs.Binary64.{+0}
use Rattle.laws.specs.Loops.{up}
use Rattle.laws.specs.Lists.{tab}
use Rattle.laws.proofs.Loops.{ups}
use Rattle.laws.proofs.Fills.{filled_front}
use Rattle.method.specs.Rooms.{byte_need, float_need, word_need, cleared}

-- ---- needs
pub byte_need_is : (n : ℕ) → 2 * n + 16 ≡ byte_need n
unfolding byte_need
byte_need_is n = refl

pub float_need_is : (n : ℕ) → 8 * n + 64 ≡ float_need n
unfolding float_need
float_need_is n = refl

pub word_need_is : (n : ℕ) → 2 * n ≡ word_need n
unfolding word_need
word_need_is n = refl

-- ---- zeros
module _ {A : Type 0} (z : A) where
  -- one element becomes zero
  abbrev pub zeroed : ℕ → List A → List A
  zeroed i room = set room i z

  pub tab_replicate : (n : ℕ) → tab n (λ c. z) ≡ replicate n z
  unfolding tab
  tab_replicate zero = refl
  tab_replicate (suc n) = ap (λ l. z ∷ l) (tab_replicate n)

  -- the front as a table, the form in which fields are written
  pub cleared_tab : (n : ℕ) (e : List A) → cleared n z e ≡ tab n (λ c. z) ++ drop n e
  unfolding cleared
  cleared_tab n e = ap (λ l. l ++ drop n e) (sym (tab_replicate n))

  pub zeroed_is : (n : ℕ) (e s : List A) → n ≤ length e → s ≡ up zeroed n e → s ≡ cleared n z e
  zeroed_is n e s h q = q ∙ filled_front zeroed (λ c r. z) n e (λ c r. refl) (λ c i x r a b. refl) h ∙ sym (cleared_tab n e)

  -- what stood in the needed part does not matter
  pub cleared_home : (need : ℕ) (e part : List A) → need ≤ length e → length part ≡ need → cleared need z (part ++ drop need e) ≡ cleared need z e
  unfolding cleared
  cleared_home need e part h k = ap (λ l. replicate need z ++ l) (drop_at part (drop need e) need k)

  -- a part that is lent to the room's end, and comes home cleared
  pub cleared_part : (from n : ℕ) (e part : List A) → from ≤ length e → part ≡ cleared n z (mid_of from (length e - from) e)
      → put_mid from (length e - from) e part ≡ take from e ++ (tab n (λ c. z) ++ drop (from + n) e)
  cleared_part from n e part h q =
      let none : drop (length e - from) (drop from e) ≡ [] = drop_of_length-le (drop from e) {i = length e - from} (omega (arith, length-drop from e)) in
      let lent : take (length e - from) (drop from e) ≡ drop from e = take_all (length e - from) (drop from e) (omega (arith, length-drop from e)) in
      ap (λ s. take from e ++ (part ++ s)) none ∙ ap (λ s. take from e ++ s) (append-nil part ∙ q ∙ ap (cleared n z) lent ∙ cleared_tab n (drop from e) ∙ ap (λ s. tab n (λ c. z) ++ s) (drop-drop n from e))

-- the literal 0.0, which is given by its bits
pub zero_bits : of_bits binary64 0 ≡ +0
unfolding of_bits of_fields
zero_bits = refl

-- the front of a room of numbers, cleared
pub zeroed_front : (n : ℕ) (e s : List Float) → s ≡ cleared n (of_bits binary64 0) e → s ≡ tab n (λ c. +0) ++ drop n e
zeroed_front n e s q = q ∙ ap (λ z. cleared n z e) zero_bits ∙ cleared_tab +0 n e

-- a part that is lent to the end of a room of numbers, and comes home with zeros
pub zeroed_part : (from n : ℕ) (e part : List Float) → from ≤ length e → part ≡ cleared n (of_bits binary64 0) (mid_of from (length e - from) e)
    → put_mid from (length e - from) e part ≡ take from e ++ (tab n (λ c. +0) ++ drop (from + n) e)
zeroed_part from n e part h q = cleared_part +0 from n e part h (q ∙ ap (λ z. cleared n z (mid_of from (length e - from) e)) zero_bits)

pub front_within : (n i : ℕ) {A : Type 0} (e s : List A) → n ≤ length e → length s ≡ length e → i < n → i < length s
front_within n i e s h q l = omega arith

pub ruleset clears = (ups, zeroed_is, front_within)

pub ruleset needing = (rules, byte_need_is, float_need_is, word_need_is)
