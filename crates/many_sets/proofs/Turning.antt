-- A set in its stretch, and one stretch after the other. Assumes nothing.
use Prim.Native.Nat.{ℕ, suc, ◌+◌, ◌-◌, ◌*◌, ◌^◌, ◌≤◌, ◌<◌}
use mathlib.Core.Path.{◌≡◌, sym, ap, ap₂, ◌∙◌}
use mathlib.Core.List.{List, [], ◌++◌, append_assoc, append-nil}
use native.Mathlib.Nat.{mul-le-mul}
use native.Mathlib.Omega.{arith}
use native.Mathlib.Numerals.{add-one}
use borrow.Rule.Slice.PartMut.{mid_of, put_mid, Post-is, mid_len}
use lib.IntN.{ℤ}
use lib.ListN.{length, take, drop}
use lib.Seq.{take_at, drop_at, drop-drop, drop-length}
use Rattle.method.specs.declared.Sides.{Sides}
use Rattle.method.specs.declared.Settings.{Settings}
use Rattle.method.specs.declared.Answer.{Answer}
use Rattle.method.specs.Cast.{cells}
use Rattle.theory.proofs.Sides.{fit}
use Rattle.grid.proofs.Steps.{cells_most}
use Rattle.answers.specs.declared.Measured.{Measured}
use Rattle.rounds.specs.declared.Plan.{Plan}
use Rattle.rounds.specs.Rounds.{cast_of}
use Rattle.method.specs.Many.{many_size, fields, field_count, stretch, end_to_end, single, set_pressures, set_fields}
use Rattle.many_checks.proofs.ManyLaws.{next_start, stretch_ends, laid_length, Lent, lent, single_fits, set_pressures_length, set_fields_length}
use Rattle.many_sets.specs.Sets.{CastReady, SameSet, SetOf, part, placed, Turned, Done, SetsOf}

-- ---- the part that a set is lent
pub part_length : {A : Type 0} (from m n : ℕ) (l : List A) → m ≡ n → from + n ≤ length l → length (mid_of from (from + m - from) l) ≡ n
part_length from m n l e h = mid_len from (from + m) l (omega arith) ∙ omega arith

-- ---- one set, home in its stretch
placed_mid : {A : Type 0} (from to n : ℕ) (e new : List A) → to ≡ from + n → put_mid from (to - from) e new ≡ placed from n new e
placed_mid from to n e new q =
    ap (λ r. take from e ++ (new ++ r)) (Post-is from to e (omega arith) ∙ ap (λ m. drop m e) q)

part_mid : {A : Type 0} (from to n : ℕ) (e : List A) → to ≡ from + n → mid_of from (to - from) e ≡ part from n e
part_mid from to n e q = let same : to - from ≡ n = omega arith in ap (λ m. take m (drop from e)) same

pub turned : (g : Sides) (ls : List ℕ) (vs : List ℤ) (t : Settings) (from at to end : ℕ) (ps rs : List ℤ) (r : Answer) (qs ss : List ℤ)
    → to ≡ from + cells g → end ≡ at + field_count
    → SetOf g ls (mid_of from (to - from) vs) t (mid_of from (to - from) ps) r qs → ss ≡ fields r
    → Turned g ls vs t from at ps rs (put_mid from (to - from) ps qs) (put_mid at (end - at) rs ss)
turned g ls vs t from at to end ps rs r qs ss et ee z q = record {
  is = λ a w.
      let same : SameSet a g ls (mid_of from (to - from) vs) t (mid_of from (to - from) ps) = record {
        cast = w.cast ∙ ap (cast_of g ls) (sym (part_mid from to (cells g) vs et));
        settings = w.settings;
        pressures = w.pressures ∙ sym (part_mid from to (cells g) ps et);
        roomy = w.roomy;
      } in
      let is = z.is a same in (
        placed_mid from to (cells g) ps qs et ∙ ap (λ l. placed from (cells g) l ps) is.1,
        placed_mid at end field_count rs ss ee ∙ ap (λ l. placed at field_count l rs) (q ∙ ap fields is.0),
      );
}

-- ---- after s sets, one more
module _ {A : Type 0} (n s : ℕ) (f : ℕ → List A) (e : List A) (long : length (end_to_end s f) ≡ s * n) where
  rest_same : drop (s * n) (end_to_end s f ++ drop (s * n) e) ≡ drop (s * n) e
  rest_same = drop_at (end_to_end s f) (drop (s * n) e) (s * n) long

  rest_next : drop (s * n + n) (end_to_end s f ++ drop (s * n) e) ≡ drop (suc s * n) e
  rest_next =
      sym (drop-drop n (s * n) (end_to_end s f ++ drop (s * n) e)) ∙ ap (drop n) rest_same ∙ drop-drop n (s * n) e ∙ ap (λ m. drop m e) (next_start s n)

  one_more : placed (s * n) n (f s) (end_to_end s f ++ drop (s * n) e) ≡ end_to_end (suc s) f ++ drop (suc s * n) e
  unfolding end_to_end
  one_more =
      ap₂ (λ x y. x ++ (f s ++ y)) (take_at (end_to_end s f) (drop (s * n) e) (s * n) long) rest_next
      ∙ sym (append_assoc (end_to_end s f) (f s) (drop (suc s * n) e))

  still : part (s * n) n (end_to_end s f ++ drop (s * n) e) ≡ part (s * n) n e
  still = ap (take n) rest_same

module _ (g : Sides) (ls : List ℕ) (vs : List ℤ) (t : Settings) (sets : ℕ) (ps rs : List ℤ) where
  pub done_none : Done g ls vs t sets ps rs 0 ps rs
  unfolding end_to_end
  done_none =
      let none : (n : ℕ) → 0 * n ≡ 0 = λ n. omega arith in
      record { is = λ a w. (ap (λ m. drop m ps) (sym (none (cells g))), ap (λ m. drop m rs) (sym (none field_count))) }

  pub done_more : (s from at : ℕ) (qs ss qs' ss' : List ℤ) → s < sets → from ≡ s * cells g → at ≡ s * field_count → Done g ls vs t sets ps rs s qs ss
      → Turned g ls vs t from at qs ss qs' ss' → Done g ls vs t sets ps rs (s + 1) qs' ss'
  unfolding stretch single set_pressures set_fields
  done_more s from at qs ss qs' ss' h ef ea d z = record {
    is = λ a w.
        let z₀ : Lent a = lent a w.roomy in
        let few : s < a.sets = omega (arith, w.sets) in
        let n : many_size a ≡ cells g = ap cells w.sides in
        let before = d.is a w in
        let long-p : length (end_to_end s (set_pressures a)) ≡ s * cells g =
        laid_length (cells g) s (set_pressures a) (λ i l. set_pressures_length a z₀ i (omega arith) ∙ n) in
        let long-f : length (end_to_end s (set_fields a)) ≡ s * field_count =
        laid_length field_count s (set_fields a) (λ i l. set_fields_length a z₀ i) in
        let values_same : stretch (many_size a) s a.values ≡ part from (cells g) vs =
        ap₂ (λ m l. take m (drop (s * m) l)) n w.values ∙ ap (λ m. part m (cells g) vs) (sym ef) in
        let pressures-same : stretch (many_size a) s a.pressures ≡ part from (cells g) qs =
        ap₂ (λ m l. take m (drop (s * m) l)) n w.pressures ∙ sym (still (cells g) s (set_pressures a) ps long-p)
        ∙ ap₂ (λ m l. part m (cells g) l) (sym ef) (sym before.0) in
        let same : SameSet (single a s) g ls (part from (cells g) vs) t (part from (cells g) qs) = record {
          cast = ap₃' w.sides w.labels values_same;
          settings = w.settings;
          pressures = pressures-same;
          roomy = single_fits a z₀ s few;
        } in
        let after = z.is (single a s) same in (
          after.0 ∙ ap₂ (λ m l. placed m (cells g) (set_pressures a s) l) ef before.0 ∙ one_more (cells g) s (set_pressures a) ps long-p
              ∙ ap (λ m. end_to_end m (set_pressures a) ++ drop (m * cells g) ps) (sym (add-one s)),
          after.1 ∙ ap₂ (λ m l. placed m field_count (set_fields a s) l) ea before.1 ∙ one_more field_count s (set_fields a) rs long-f
              ∙ ap (λ m. end_to_end m (set_fields a) ++ drop (m * field_count) rs) (sym (add-one s)),
        );
  }
    where
      ap₃' : {x y : Sides} {l m : List ℕ} {u v : List ℤ} → x ≡ y → l ≡ m → u ≡ v → cast_of x l u ≡ cast_of y m v
      ap₃' p q r = rw (p, q, r)

  pub done_all : (s : ℕ) (qs ss : List ℤ) → s ≤ sets → sets ≤ s → length ps ≡ sets * cells g → length rs ≡ sets * field_count → Done g ls vs t sets ps rs s qs ss
      → SetsOf g ls vs t sets ps rs qs ss
  done_all s qs ss l h ep er d = record {
    is = λ a w.
        let same : s ≡ sets = omega arith in
        let is = d.is a w in (
          is.0 ∙ ap (λ m. end_to_end m (set_pressures a) ++ drop (m * cells g) ps) same ∙ ap (λ x. end_to_end sets (set_pressures a) ++ x) (none_left (sets * cells g) ps ep) ∙ append-nil (end_to_end sets (set_pressures a)),
          is.1 ∙ ap (λ m. end_to_end m (set_fields a) ++ drop (m * field_count) rs) same ∙ ap (λ x. end_to_end sets (set_fields a) ++ x) (none_left (sets * field_count) rs er) ∙ append-nil (end_to_end sets (set_fields a)),
        );
  }
    where
      none_left : (m : ℕ) (l : List ℤ) → length l ≡ m → drop m l ≡ []
      none_left m l e = ap (λ k. drop k l) (sym e) ∙ drop-length l

-- ---- what a turn of the loop asks, and where it goes on
pub ready_again : {g : Sides} {ls : List ℕ} {t : Settings} {of : Measured} {plan : Plan} {bytes words : List ℕ} {floats : ℕ} (m : ℕ)
    → CastReady g ls t of plan bytes words floats → m ≡ floats → CastReady g ls t of plan bytes words m
ready_again m z e = record { past = z.past; measured = z.measured; planned = z.planned; floats_long = e ∙ z.floats_long }

pub within : (s k n from m : ℕ) → s < k → from ≡ s * n → m ≡ k * n → from + n ≤ m
within s k n from m h e q = omega (arith, stretch_ends s k n h)

pub next_from : (s n m from : ℕ) → m ≡ n → from ≡ s * n → from + m ≡ (s + 1) * n
next_from s n m from e q = ap₂ ◌+◌ q e ∙ next_start s n ∙ ap (λ k. k * n) (sym (add-one s))

pub from_fits : {g : Sides} {ls : List ℕ} {t : Settings} {of : Measured} {plan : Plan} {bytes words : List ℕ} {floats : ℕ} → CastReady g ls t of plan bytes words floats
    → (s k from : ℕ) → s < k → k ≤ 64 → from ≡ s * cells g → from + length ls < 2 ^ 64
from_fits {g} z s k from h l e =
    let most : k * cells g ≤ 64 * 32768 = mul-le-mul l (cells_most g (fit g z.past.sides)) in
    omega (arith, stretch_ends s k (cells g) h, z.past.labelled)
