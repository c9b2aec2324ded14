-- Laws of items that are put one after the other, each in one form. Assumes nothing.
use mathlib.Core.Path.{◌≡◌, refl, sym, ap, ◌∙◌}
use mathlib.Core.List.{List, [], ◌∷◌, ◌++◌, append_assoc, append-nil, flat_map}
use Prim.Native.Nat.{ℕ, ◌+◌, ◌*◌, ◌≤◌, ◌<◌}
use native.Mathlib.Nat.{mul-suc, mul-le-mul_left}
use native.Mathlib.Numerals.{add-one}
use native.Mathlib.Omega.{arith}
use borrow.Author.Rules.{rules}
use lib.ListN.{length, get_or, take}
use lib.Seq.{take_all}
use Rattle.std.proofs.lemmas.List.{take_more}
use Rattle.text_out.specs.Puts.{Put}
use Rattle.text_out.proofs.PutLaws.{put_length, put_then}

module _ {A : Type 0} where
  flat_append : (f : A → List ℕ) (xs ys : List A) → flat_map f (xs ++ ys) ≡ flat_map f xs ++ flat_map f ys
  unfolding flat_map
  flat_append f [] ys = refl
  flat_append f (x ∷ xs) ys = ap (λ l. f x ++ l) (flat_append f xs ys) ∙ sym (append_assoc (f x) (flat_map f xs) (flat_map f ys))

  flat_one : (f : A → List ℕ) (x : A) → flat_map f (x ∷ []) ≡ f x
  unfolding flat_map
  flat_one f x = append-nil (f x)

  -- i items are put
  pub record Each (word : A → List ℕ) (most : ℕ) (items : List A) (old : List ℕ) (at i : ℕ) (new : List ℕ) (r : ℕ) : Type 0 where
    pub puts : Put (flat_map word (take i items)) old at new r
    pub few : r ≤ at + most * i

  module _ (word : A → List ℕ) (most : ℕ) (items : List A) (old : List ℕ) (at : ℕ) where
    pub each_none : Each word most items old at 0 old at
    unfolding flat_map
    each_none = record { puts = record { is = refl; next = omega arith }; few = omega arith }

    one_more : (i : ℕ) → most * (i + 1) ≡ most * i + most
    one_more i = ap (λ k. most * k) (add-one i) ∙ mul-suc most i

    module _ (i : ℕ) (new : List ℕ) (r : ℕ) (h : Each word most items old at i new r) where
      pub each_more : (x : A) (next : List ℕ) (q : ℕ) → i < length items → x ≡ get_or items i x → Put (word x) new r next q → q ≤ r + most
          → Each word most items old at (i + 1) next q
      each_more x next q l e p m = record {
        puts = rw step (put_then h.puts p);
        few = omega (arith, one_more i, h.few, m);
      }
        where
          step : flat_map word (take (i + 1) items) ≡ flat_map word (take i items) ++ word x
          step = ap (flat_map word) (take_more items i x l ∙ ap (λ y. take i items ++ (y ∷ [])) (sym e))
              ∙ flat_append word (take i items) (x ∷ []) ∙ ap (λ b. flat_map word (take i items) ++ b) (flat_one word x)

      pub each_room : i < length items → at + most * length items ≤ length old → r + most ≤ length new
      each_room l m =
          let e : most * (i + 1) ≤ most * length items = mul-le-mul_left most (omega arith) in
          omega (arith, one_more i, e, h.few, put_length h.puts)

      pub each_put : length items ≤ i → Put (flat_map word items) old at new r
      each_put l = rw (take_all i items l) at h.puts

      pub each_few : i ≤ length items → r ≤ at + most * length items
      each_few l =
          let e : most * i ≤ most * length items = mul-le-mul_left most l in
          omega (arith, e, h.few)

pub ruleset eaches = (rules, each_none, each_more, each_room, each_put, each_few)
