-- A step of the search keeps what its stores rest on. Assumes nothing.
use Prim.Native.Nat.{ℕ, zero, suc, ◌+◌, ◌<◌, ◌≤◌}
use mathlib.Core.Path.{◌≡◌, refl, sym, ap, ◌∙◌}
use mathlib.Core.Logic.{⊎_elim}
use mathlib.Core.Bool.{Bool, true, false, cond}
use mathlib.Core.List.{List}
use native.Mathlib.Nat.{eq-or-lt_of_le, le_of_suc-le-suc}
use native.Mathlib.Decide.{ℕ_discrete}
use native.Mathlib.Numerals.{add-one}
use native.Mathlib.Omega.{arith}
use lib.Dec.{T, eqb, eqb→eq}
use lib.ListN.{length, get_or, set, drop, length-set}
use lib.Seq.{get_or-set_same, get_or-set_other, drop-set-lt}
use borrow.Author.Tests.{eq-eqb, ne_eqb}
use Rattle.theory.specs.Totals.{total, one_if}
use Rattle.distances.specs.Search.{Queue, queue, mark, entry, put, reach, Safe, Moved}

-- ---- a sum in which one place changes
change_one : (n : ℕ) (f g : ℕ → ℕ) (j : ℕ) → j < n → ((i : ℕ) → i < n → (i ≡ j → ⊥) → g i ≡ f i) → total n g + f j ≡ total n f + g j
unfolding total
change_one zero f g j l h = absurd (omega arith)
change_one (suc n) f g j l h = ⊎_elim
    (λ e. rw e (omega (arith, same_below n (λ i k. h i (omega arith) (λ q. omega arith)))))
    (λ k. omega (arith, change_one n f g j k (λ i m. h i (omega arith)), h n (omega arith) (λ q. omega arith)))
    (eq-or-lt_of_le (le_of_suc-le-suc l))
  where
    same_below : (m : ℕ) → ((i : ℕ) → i < m → g i ≡ f i) → total m g ≡ total m f
    same_below zero h = refl
    same_below (suc m) h = omega (arith, same_below m (λ i k. h i (omega arith)), h m (omega arith))

-- ---- what stands in the room after a cell has entered the queue
pub record Put (n v j : ℕ) (q p : Queue) : Type 0 where
  pub tail_is : p.tail ≡ q.tail + 1
  pub mark_here : mark p j ≡ v
  pub mark_else : (c : ℕ) → c < n → (c ≡ j → ⊥) → mark p c ≡ mark q c
  pub entry_here : entry n p q.tail ≡ j
  pub entry_else : (k : ℕ) → k < q.tail → entry n p k ≡ entry n q k
  pub long_is : length p.room ≡ length q.room
  pub rest_is : drop (n + n) p.room ≡ drop (n + n) q.room

pub put_is : (n v j : ℕ) (q : Queue) → n + n ≤ length q.room → j < n → q.tail < n → Put n v j q (put n v j q)
put_is n v j q long l t = record {
  tail_is = refl;
  mark_here = get_or-set_other (set q.room j v) (n + q.tail) j j 0 (λ e. omega arith) ∙ get_or-set_same q.room j v 0 (omega arith);
  mark_else = λ c k e. get_or-set_other (set q.room j v) (n + q.tail) c j 0 (λ e. omega arith) ∙ get_or-set_other q.room j c v 0 e;
  entry_here = get_or-set_same (set q.room j v) (n + q.tail) j 0 (omega (arith, length-set q.room j v));
  entry_else = λ k h. get_or-set_other (set q.room j v) (n + q.tail) (n + k) j 0 (λ e. omega arith) ∙ get_or-set_other q.room j (n + k) v 0 (λ e. omega arith);
  long_is = length-set (set q.room j v) (n + q.tail) j ∙ length-set q.room j v;
  rest_is = drop-set-lt (n + n) (set q.room j v) (n + q.tail) j (omega arith) ∙ drop-set-lt (n + n) q.room j v (omega arith);
}

-- ---- an unmarked cell leaves a place in the queue
module _ (n : ℕ) (q : Queue) (s : Safe n q) (j : ℕ) (l : j < n) (z : mark q j ≡ 0) where
  one_unmarked : (m : ℕ) → j < m → 1 ≤ total m (λ c. one_if (eqb (mark q c) 0))
  unfolding total
  one_unmarked zero h = absurd (omega arith)
  one_unmarked (suc m) h = ⊎_elim
      (λ e. omega (arith, ap one_if (eq-eqb (mark q j) 0 z), ap (λ x. one_if (eqb (mark q x) 0)) e))
      (λ k. omega (arith, one_unmarked m k))
      (eq-or-lt_of_le (le_of_suc-le-suc h))

  pub place : q.tail < n
  place = omega (arith, s.free, one_unmarked n l)

  pub put_safe : (v : ℕ) → 0 < v → v ≤ q.tail + 1 → Safe n (put n v j q)
  put_safe v v0 h =
      let p = put_is n v j q s.long l place in
      record {
        few = s.few;
        long = omega (arith, s.long, p.long_is);
        inside = λ k b. ⊎_elim
            (λ e. omega (arith, ap (λ x. entry n (put n v j q) x) e, p.entry_here, l))
            (λ b. omega (arith, p.entry_else k b, s.inside k b))
            (eq-or-lt_of_le (le_of_suc-le-suc (rw add-one at b)));
        low = λ c k. low_at p c k (ℕ_discrete c j);
        free = omega (
          arith,
          s.free,
          change_one n (λ c. one_if (eqb (mark q c) 0)) (λ c. one_if (eqb (mark (put n v j q) c) 0)) j l (λ i k e. ap (λ x. one_if (eqb x 0)) (p.mark_else i k e)),
          ap one_if (eq-eqb (mark q j) 0 z),
          ap one_if (ne_eqb (mark (put n v j q) j) 0 (λ e. omega (arith, p.mark_here))),
        );
      }
    where
      low_at : Put n v j q (put n v j q) → (c : ℕ) → c < n → Dec (c ≡ j) → mark (put n v j q) c ≤ q.tail + 1
      low_at p c k (yes e) = rw e (omega (arith, p.mark_here))
      low_at p c k (no e) = omega (arith, p.mark_else c k e, s.low c k)

-- ---- so a cell that is reached keeps the queue safe
cond_cases : {A : Type 0} (P : A → Type 0) (b : Bool) {x y : A} → (T b → P x) → (b ≡ false → P y) → P (cond b x y)
cond_cases P true f g = f tt
cond_cases P false f g = g refl

pub reach_safe : (n m j : ℕ) (q : Queue) → Safe n q → j < n → m ≤ q.tail → Safe n (reach n m j q)
unfolding reach
reach_safe n m j q s l h = cond_cases (Safe n) (eqb (mark q j) 0)
    (λ t. put_safe n q s j l (eqb→eq (mark q j) 0 t) (m + 1) (omega arith) (omega arith))
    (λ e. s)

pub reach_put : (n m j : ℕ) (q : Queue) → mark q j ≡ 0 → reach n m j q ≡ put n (m + 1) j q
unfolding reach
reach_put n m j q e = ap (λ b. cond b (put n (m + 1) j q) q) (eq-eqb (mark q j) 0 e)

pub reach_keep : (n m j : ℕ) (q : Queue) → (mark q j ≡ 0 → ⊥) → reach n m j q ≡ q
unfolding reach
reach_keep n m j q e = ap (λ b. cond b (put n (m + 1) j q) q) (ne_eqb (mark q j) 0 e)

-- ---- what the code's branches come to
module _ (n m j tail : ℕ) (room : List ℕ) (s : Safe n (queue room tail)) (l : j < n) where
  pub moved_put : m ≤ tail → get_or room j 0 ≡ 0
      → Moved n (queue room tail) (reach n m j (queue room tail)) (queue (set (set room j (m + 1)) (n + tail) j) (tail + 1))
  moved_put h z =
      let e = reach_put n m j (queue room tail) z in
      record { is = sym e; safe = rw e at (reach_safe n m j (queue room tail) s l h); grows = omega arith }

  pub moved_keep : (get_or room j 0 ≡ 0 → ⊥) → Moved n (queue room tail) (reach n m j (queue room tail)) (queue room tail)
  moved_keep z = record { is = sym (reach_keep n m j (queue room tail) z); safe = s; grows = omega arith }

  pub place_in : get_or room j 0 ≡ 0 → n + tail < length (set room j (m + 1))
  place_in z = omega (arith, place n (queue room tail) s j l z, s.long, length-set room j (m + 1))
