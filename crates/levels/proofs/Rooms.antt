-- Laws of rooms that are written into, and of tests over numbers. Assumes nothing.
use Prim.Native.Nat.{ℕ, zero, suc, ◌+◌, ◌≤◌, ◌<◌}
use mathlib.Core.Path.{◌≡◌, refl, sym, ap, ap₂, ◌∙◌}
use mathlib.Core.Logic.{⊎_elim}
use mathlib.Core.Bool.{Bool, true, false, ◌||◌}
use mathlib.Core.List.{List, [], ◌∷◌, ◌++◌, map, append_assoc}
use native.Mathlib.Nat.{le_antisymm, le_of_suc-le-suc, not-suc-le-zero, eq-or-lt_of_le}
use native.Mathlib.Numerals.{add-one}
use native.Mathlib.Omega.{arith}
use lib.ListN.{length, take, drop, set, length-append, length-drop, take-append-drop}
use lib.Seq.{length-take-le, drop-append-add, drop-drop, take_at, drop_at, take-add, set_split}
use Rattle.laws.specs.Lists.{tab, any}
use Rattle.levels.specs.Rooms.{written, some}

-- ---- whether some number below n passes
or_assoc : (a b c : Bool) → (a || (b || c)) ≡ ((a || b) || c)
or_assoc true b c = refl
or_assoc false b c = refl

or_false : (a : Bool) → (a || false) ≡ a
or_false true = refl
or_false false = refl

some_first : (p : ℕ → Bool) (n : ℕ) → some p (suc n) ≡ (p 0 || some (λ k. p (suc k)) n)
unfolding some
some_first p zero = sym (or_false (p 0))
some_first p (suc n) = ap (λ b. b || p (suc n)) (some_first p n) ∙ sym (or_assoc (p 0) (some (λ k. p (suc k)) n) (p (suc n)))

module _ {A : Type 0} where
  pub any_tab : (p : A → Bool) (n : ℕ) (f : ℕ → A) → any p (tab n f) ≡ some (λ t. p (f t)) n
  unfolding any tab some
  any_tab p zero f = refl
  any_tab p (suc n) f = ap (λ b. p (f 0) || b) (any_tab p n (λ k. f (suc k))) ∙ sym (some_first (λ t. p (f t)) n)

  pub any_map : {B : Type 0} (p : B → Bool) (g : A → B) (l : List A) → any p (map g l) ≡ any (λ x. p (g x)) l
  unfolding any
  any_map p g [] = refl
  any_map p g (x ∷ l) = ap (λ b. p (g x) || b) (any_map p g l)

-- the test p fails at every number below i
pub record None (p : ℕ → Bool) (i : ℕ) : Type 0 where
  pub is : some p i ≡ false

pub none_none : {p : ℕ → Bool} → None p 0
unfolding some
none_none = record { is = refl }

pub none_more : {p : ℕ → Bool} {i : ℕ} (r : Bool) → None p i → r ≡ p i → r ≡ false → None p (i + 1)
unfolding some
none_more {p} {i} r h e f = record { is = rw (add-one i, h.is, ← e, f) }

pub none_end : {p : ℕ → Bool} {i : ℕ} (n : ℕ) → None p i → i ≤ n → n ≤ i → some p n ≡ false
none_end {p} {i} n h a b = ap (some p) (le_antisymm b a) ∙ h.is

or_true : (p q : Bool) → q ≡ true → (p || q) ≡ true
or_true true q e = refl
or_true false q e = e

pub some_hit : (p : ℕ → Bool) (i n : ℕ) → i < n → p i ≡ true → some p n ≡ true
unfolding some
some_hit p i zero h e = absurd (not-suc-le-zero h)
some_hit p i (suc n) h e =
    ⊎_elim (λ q. or_true (some p n) (p n) (rw q at e)) (λ l. rw (some_hit p i n l e)) (eq-or-lt_of_le (le_of_suc-le-suc h))

-- ---- a room that is written into
module _ {A : Type 0} where
  pub tab_last : (n : ℕ) (f : ℕ → A) → tab (suc n) f ≡ tab n f ++ (f n ∷ [])
  unfolding tab
  tab_last zero f = refl
  tab_last (suc n) f = ap (λ l. f 0 ∷ l) (tab_last n (λ k. f (suc k)))

  module _ (e : List A) (a : ℕ) where
    pub written_none : e ≡ written e a []
    unfolding written
    written_none = let k : a + 0 ≡ a = omega arith in sym (ap (λ k. take a e ++ drop k e) k ∙ take-append-drop a e)

    pub length_written : (l : List A) → a + length l ≤ length e → length (written e a l) ≡ length e
    unfolding written
    length_written l h = omega (
      arith,
      length-append (take a e) (l ++ drop (a + length l) e),
      length-append l (drop (a + length l) e),
      length-drop (a + length l) e,
      length-take-le a e (omega arith),
    )

    module _ (l : List A) (h : a ≤ length e) where
      head_long : length (take a e ++ l) ≡ a + length l
      head_long = omega (arith, length-append (take a e) l, length-take-le a e h)

      grouped : written e a l ≡ (take a e ++ l) ++ drop (a + length l) e
      unfolding written
      grouped = sym (append_assoc (take a e) l (drop (a + length l) e))

      pub take_written : take (a + length l) (written e a l) ≡ take a e ++ l
      take_written = rw grouped (take_at (take a e ++ l) (drop (a + length l) e) (a + length l) head_long)

      pub drop_written : (k : ℕ) → drop (a + length l + k) (written e a l) ≡ drop (a + length l + k) e
      drop_written k = rw (grouped, ← head_long) (drop-append-add (take a e ++ l) (drop (length (take a e ++ l)) e) k ∙ drop-drop k (length (take a e ++ l)) e)

      -- what is written next
      pub written_on : (m : List A) → written (written e a l) (a + length l) m ≡ written e a (l ++ m)
      unfolding written
      written_on m =
          let k : a + length l + length m ≡ a + length (l ++ m) = omega (arith, length-append l m) in
          ap₂ (λ x y. x ++ (m ++ y)) take_written (drop_written (length m))
          ∙ append_assoc (take a e) l (m ++ drop (a + length l + length m) e)
          ∙ ap (λ x. take a e ++ x) (sym (append_assoc l m (drop (a + length l + length m) e))
          ∙ ap (λ k. (l ++ m) ++ drop k e) k)

  pub set_written : (e : List A) (i : ℕ) (x : A) → i < length e → set e i x ≡ written e i (x ∷ [])
  unfolding written
  set_written e i x h = set_split e i x h ∙ ap (λ k. take i e ++ (x ∷ drop k e)) (sym (add-one i))

  -- one element more
  pub written_more : (e : List A) (a : ℕ) (l : List A) (x : A) → a + length l < length e → set (written e a l) (a + length l) x ≡ written e a (l ++ (x ∷ []))
  written_more e a l x h =
      set_written (written e a l) (a + length l) x (omega (arith, length_written e a l (omega arith))) ∙ written_on e a l (omega arith) (x ∷ [])

  -- what stands before the place is read as it was
  pub part_before : (e : List A) (b n : ℕ) (l : List A) → b + n ≤ length e → take n (drop b (written e (b + n) l)) ≡ take n (drop b e)
  unfolding written
  part_before e b n l h =
      let R : List A = l ++ drop (b + n + length l) e in
      ap (λ x. take n (drop b x)) (ap (λ x. x ++ R) (take-add b n e) ∙ append_assoc (take b e) (take n (drop b e)) R)
      ∙ ap (take n) (drop_at (take b e) (take n (drop b e) ++ R) b (length-take-le b e (omega arith)))
      ∙ take_at (take n (drop b e)) R n (length-take-le n (drop b e) (omega (arith, length-drop b e)))

  -- the last part of what was written
  pub part_last : (e u v : List A) (b n : ℕ) → length u ≡ b → length v ≡ n → take n (drop b (written e 0 (u ++ v))) ≡ v
  unfolding written
  part_last e u v b n p q =
      let R : List A = drop (0 + length (u ++ v)) e in
      ap (λ x. take n (drop b x)) (append_assoc u v R) ∙ ap (take n) (drop_at u (v ++ R) b p) ∙ take_at v R n q
