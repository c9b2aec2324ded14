-- One cast with many sets: stretches laid end to end, and each set's single call. Assumes nothing.
use Prim.Native.Nat.{ℕ, zero, suc, ◌+◌, ◌*◌, ◌≤◌, ◌<◌}
use mathlib.Core.Path.{◌≡◌, refl, sym, ap, ap₂, ◌∙◌}
use mathlib.Core.Logic.{⊎_elim}
use mathlib.Core.Bool.{Bool, true, false, ◌&&◌, false≢true}
use mathlib.Core.List.{List, ◌++◌, append_assoc}
use native.Mathlib.Nat.{mul-le-mul, le_refl}
use native.Mathlib.Omega.{arith}
use borrow.Author.Tests.{eq-eqb, le-leb, eqb-true, leb-true}
use lib.Dec.{leb, eqb}
use lib.IntN.{ℤ, pos, nat_abs}
use lib.ListN.{length, get_or, take, drop, length-append, length-drop}
use lib.Seq.{take_at, drop_at, length-take-le}
use Rattle.laws.proofs.Naturals.{le_or_lt}
use Rattle.method.specs.declared.Answer.{Answer}
use Rattle.method.specs.Rooms.{byte_need, float_need, word_need}
use Rattle.method.specs.Solving.{Asked, size, Solved, lengths_fit, checks_before7, untouched, handed_back, solving}
use Rattle.theory.proofs.Verdicts.{AllPass, no_fault}
use Rattle.theory.proofs.Pressures.{length_rounded}
use Rattle.theory.proofs.Outcome.{Outcome, early, cut_off, unended, right, outcome}
use Rattle.method.specs.Many.{AskedMany, many_size, fields, field_count, stretch, end_to_end, single, many_lengths_fit, set_pressures, set_fields}

-- ---- stretches
-- stretch s ends where the next begins, and no later than the last
pub next_start : (s n : ℕ) → s * n + n ≡ suc s * n
next_start s n = omega arith

pub stretch_ends : (s k n : ℕ) → s < k → s * n + n ≤ k * n
stretch_ends s k n h =
    let more : suc s * n ≤ k * n = mul-le-mul h (le_refl n) in
    omega (arith, next_start s n)

module _ {A : Type 0} where
  pub stretch_length : (n s k : ℕ) (l : List A) → length l ≡ k * n → s < k → length (stretch n s l) ≡ n
  unfolding stretch
  stretch_length n s k l e h = length-take-le n (drop (s * n) l) (omega (arith, length-drop (s * n) l, stretch_ends s k n h))

  pub laid_length : (n k : ℕ) (f : ℕ → List A) → ((s : ℕ) → s < k → length (f s) ≡ n) → length (end_to_end k f) ≡ k * n
  unfolding end_to_end
  laid_length n zero f e = omega arith
  laid_length n (suc k) f e =
      length-append (end_to_end k f) (f k) ∙ ap₂ ◌+◌ (laid_length n k f (λ s h. e s (omega arith))) (e k (omega arith)) ∙ next_start k n

  -- what lies in stretch s is what was laid there, whatever comes after
  pub laid_stretch : (n k : ℕ) (f : ℕ → List A) → ((s : ℕ) → s < k → length (f s) ≡ n) → (s : ℕ) → s < k → (rest : List A) → stretch n s (end_to_end k f ++ rest) ≡ f s
  unfolding end_to_end stretch
  laid_stretch n zero f e s h rest = absurd (omega arith)
  laid_stretch n (suc k) f e s h rest =
      ap (λ l. take n (drop (s * n) l)) (append_assoc (end_to_end k f) (f k) rest)
      ∙ ⊎_elim (λ q. laid_stretch n k f (λ i l. e i (omega arith)) s q (f k ++ rest)) last (le_or_lt (suc s) k)
    where
      last : k < suc s → take n (drop (s * n) (end_to_end k f ++ (f k ++ rest))) ≡ f s
      last q =
          let same : s ≡ k = omega arith in
          let long : length (end_to_end k f) ≡ s * n = laid_length n k f (λ i l. e i (omega arith)) ∙ ap (λ i. i * n) (sym same) in
          ap (take n) (drop_at (end_to_end k f) (f k ++ rest) (s * n) long) ∙ take_at (f k) rest n (e k (omega arith)) ∙ ap f (sym same)

-- ---- an answer's fields
pub fields_length : (r : Answer) → length (fields r) ≡ field_count
unfolding fields
fields_length r = refl

-- the answer whose fields these are
read_back : List ℤ → Answer
read_back l =
    let at : ℕ → ℕ = λ i. nat_abs (get_or l i (pos 0)) in
    record { number = at 0; place = at 1; rounds = at 2; worst = at 3; worstcell = at 4; worstvalue = get_or l 5 (pos 0); interior = at 6; depth = at 7 }

pub fields_one : (p q : Answer) → fields p ≡ fields q → p ≡ q
unfolding fields read_back
fields_one p q e = ap read_back e

-- ---- what check 2 of the whole call leaves known
both : (p q : Bool) → (p && q) ≡ true → (p ≡ true) × (q ≡ true)
both true q k = (refl, k)
both false q k = absurd (false≢true k)

pub record Lent (a : AskedMany) : Type 0 where
  pub labelled : length a.labels ≡ many_size a
  pub valued : length a.values ≡ a.sets * many_size a
  pub pressed : length a.pressures ≡ a.sets * many_size a
  pub answered : length a.answers ≡ a.sets * field_count
  pub bytes_long : byte_need (many_size a) ≤ length a.bytes
  pub floats_long : float_need (many_size a) ≤ length a.floats
  pub words_long : word_need (many_size a) ≤ length a.words

pub lent : (a : AskedMany) → many_lengths_fit a ≡ true → Lent a
unfolding many_lengths_fit
lent a e =
    let i = both (eqb (length a.labels) (many_size a)) _ e in
    let j = both (eqb (length a.values) (a.sets * many_size a)) _ i.1 in
    let k = both (eqb (length a.pressures) (a.sets * many_size a)) _ j.1 in
    let l = both (eqb (length a.answers) (a.sets * field_count)) _ k.1 in
    let m = both (leb (byte_need (many_size a)) (length a.bytes)) _ l.1 in
    let n = both (leb (float_need (many_size a)) (length a.floats)) (leb (word_need (many_size a)) (length a.words)) m.1 in
    record {
      labelled = eqb-true _ _ i.0;
      valued = eqb-true _ _ j.0;
      pressed = eqb-true _ _ k.0;
      answered = eqb-true _ _ l.0;
      bytes_long = leb-true _ _ m.0;
      floats_long = leb-true _ _ n.0;
      words_long = leb-true _ _ n.1;
    }

-- then each set's single call passes its check 2
pub single_fits : (a : AskedMany) → Lent a → (s : ℕ) → s < a.sets → lengths_fit (single a s) ≡ true
unfolding lengths_fit single
single_fits a z s h = rw (
  eq-eqb (length a.labels) (many_size a) z.labelled,
  eq-eqb (length (stretch (many_size a) s a.values)) (many_size a) (stretch_length (many_size a) s a.sets a.values z.valued h),
  eq-eqb (length (stretch (many_size a) s a.pressures)) (many_size a) (stretch_length (many_size a) s a.sets a.pressures z.pressed h),
  le-leb (byte_need (many_size a)) (length a.bytes) z.bytes_long,
  le-leb (float_need (many_size a)) (length a.floats) z.floats_long,
  le-leb (word_need (many_size a)) (length a.words) z.words_long,
)

-- ---- a solve keeps the number of its pressures
pressed : (a : Asked) → AllPass checks_before7 a → length a.pressures ≡ size a
unfolding checks_before7 lengths_fit
pressed a ok =
    let i = both (eqb (length a.cast.labels) (size a)) _ (no_fault (lengths_fit a) ok.1.0) in
    let j = both (eqb (length a.cast.values) (size a)) _ i.1 in
    eqb-true _ _ (both (eqb (length a.pressures) (size a)) _ j.1).0

pub pressures_keep : (a : Asked) → length (solving a).pressures ≡ length a.pressures
unfolding untouched handed_back
pressures_keep a = go (outcome a)
  where
    count : Solved → ℕ
    count r = length r.pressures

    go : Outcome a → count (solving a) ≡ length a.pressures
    go (early num place l h e) = ap count e
    go (cut_off place p q e) = ap count e
    go (unended num st l h p q e) = ap count e
    go (right st t p q e) = ap count e ∙ length_rounded a.cast st.x ∙ sym (pressed a p)

-- ---- each set's stretch has its length
module _ (a : AskedMany) (z : Lent a) where
  pub set_pressures_length : (s : ℕ) → s < a.sets → length (set_pressures a s) ≡ many_size a
  unfolding set_pressures single
  set_pressures_length s h = pressures_keep (single a s) ∙ stretch_length (many_size a) s a.sets a.pressures z.pressed h

  pub set_fields_length : (s : ℕ) → length (set_fields a s) ≡ field_count
  unfolding set_fields
  set_fields_length s = fields_length (solving (single a s)).answer
