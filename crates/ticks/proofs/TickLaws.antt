-- From the size of a number to its tick, by its sign. Assumes nothing.
use Rattle.std.proofs.Common.{◌≡◌, ℕ, zero, suc, ◌+◌, ◌*◌, ◌^◌, ◌<◌, ◌≤◌, min, Bool, true, false, ◌&&◌, ltb, leb, pos, ◌-ℤ◌, neg_ℤ, sym, refl, ap, ◌∙◌, arith, lit<, leb→le, to_z-of_z, w64, SFits, to_z, of_z, rules, ltb-false, ltb-true, lt-ltb, eq-eqb, eqb-true, le-leb}
use native.Mathlib.Nat.{zero-div, zero-mod}
use borrow.Author.Tests.{lt-leb}
use lib.Dec.{nleb→lt}
use mir.Facts.{to_z_pos}
use lib.IntN.{+ℤ_idl}
use lib.Ieee.{Float, nan, inf, fin, up, down, neg, lt, eq}
use lib.Ieee.Fits.{down_pos}
use Rattle.laws.specs.Binary64.{+0}
use Rattle.laws.proofs.Bools.{split}
use Rattle.std.specs.Prelude.{ℤ, Option, Some, None}
use Rattle.method.specs.Ticks.{nearest, furthest, signed, kept, tick}
use Rattle.ticks.specs.TickSize.{size}
use Rattle.ticks.proofs.TickNear.{no, nearest_low}

-- ---- the two signs in i64
above_is : (n : ℕ) → n < 2 ^ 63 → to_z w64 n ≡ pos n
above_is n h = to_z_pos w64 (omega arith)

zero_less : (n : ℕ) → pos 0 -ℤ pos n ≡ neg_ℤ (pos n)
zero_less n = +ℤ_idl (neg_ℤ (pos n))

neg_fits : (n : ℕ) → n < 2 ^ 63 → SFits w64 (neg_ℤ (pos n))
neg_fits zero h = record { sfits = lit< tt }
neg_fits (suc n) h = record { sfits = omega arith }

below_is : (n : ℕ) → n < 2 ^ 63 → to_z w64 (of_z w64 (pos 0 -ℤ to_z w64 n)) ≡ neg_ℤ (pos n)
below_is n h = rw (above_is n h, zero_less n) (to_z-of_z (neg_fits n h))

-- ---- what is kept
pub kept_whole : (s : Bool) (n : ℕ) → n ≤ 2 ^ 41 → Some (signed s n) ≡ kept s n
unfolding kept furthest
kept_whole s n h = simp (le-leb n (2 ^ 41) h)

pub kept_refused : (s : Bool) (n : ℕ) → 2 ^ 41 < n → None ≡ kept s n
unfolding kept furthest
kept_refused s n h = simp (lt-leb n (2 ^ 41) h)

pub above_kept : (s : Bool) (n : ℕ) → s ≡ false → n ≤ 2 ^ 41 → Some (to_z w64 n) ≡ kept s n
unfolding signed
above_kept s n e h = rw e (ap Some (above_is n (omega arith)) ∙ kept_whole false n h)

pub below_kept : (s : Bool) (n : ℕ) → s ≡ true → n ≤ 2 ^ 41 → Some (to_z w64 (of_z w64 (pos 0 -ℤ to_z w64 n))) ≡ kept s n
unfolding signed
below_kept s n e h = rw e (ap Some (below_is n (omega arith)) ∙ kept_whole true n h)

-- nothing is kept beyond 2 ^ 42, nor at it
kept_capped : (s : Bool) (n : ℕ) → kept s (min n (2 ^ 42)) ≡ kept s n
kept_capped s n = split (leb n (2 ^ 41))
    (λ t. let h : n ≤ 2 ^ 41 = leb→le n (2 ^ 41) t in ap (kept s) (omega arith))
    (λ t. let h : 2 ^ 41 < n = nleb→lt n (2 ^ 41) t in sym (kept_refused s (min n (2 ^ 42)) (omega arith)) ∙ kept_refused s n h)

-- ---- the tick, by the sign
never : {A : Type 0} (m d : ℕ) → ltb (m * 1) (0 * d) ≡ true → A
never m d a = let h : m * 1 < 0 * d = ltb-true _ _ a in let f : ⊥ = omega arith in absurd f

pub neg_above : (x : Float) → lt x +0 ≡ true → lt +0 (neg x) ≡ true
unfolding lt neg
neg_above nan a = a
neg_above (inf true) a = refl
neg_above (inf false) a = a
neg_above (fin true m e) a = lt-ltb (0 * down e) (m * up e * 1) (let h : 0 < m * up e * 1 + 0 * down e = ltb-true _ _ a in omega arith)
neg_above (fin false m e) a = never (m * up e) (down e) a

pub low_tick : (x : Float) (n : ℕ) (r : Option ℤ) → lt x +0 ≡ true → n ≡ size (neg x) → r ≡ kept true n → r ≡ tick x
unfolding lt neg size tick
low_tick nan n r a is e = no a
low_tick (inf true) n r a is e = e ∙ ap (kept true) is ∙ sym (kept_refused true (2 ^ 42) (lit< tt))
low_tick (inf false) n r a is e = no a
low_tick (fin true m d) n r a is e = e ∙ ap (kept true) is ∙ kept_capped true (nearest (m * up d) (down d))
low_tick (fin false m d) n r a is e = never (m * up d) (down d) a

pub high_tick : (x : Float) (n : ℕ) (r : Option ℤ) → lt +0 x ≡ true → n ≡ size x → r ≡ kept false n → r ≡ tick x
unfolding lt size tick
high_tick nan n r a is e = no a
high_tick (inf true) n r a is e = no a
high_tick (inf false) n r a is e = e ∙ ap (kept false) is ∙ sym (kept_refused false (2 ^ 42) (lit< tt))
high_tick (fin true m d) n r a is e = no a
high_tick (fin false m d) n r a is e = e ∙ ap (kept false) is ∙ kept_capped false (nearest (m * up d) (down d))

-- neither: a zero, or no number
and_true : (p q : Bool) → (p && q) ≡ true → p ≡ true
and_true true q h = refl
and_true false q h = h

nearest_zero : (b : ℕ) → 0 < b → nearest 0 b ≡ 0
nearest_zero b h = nearest_low 0 b (rw (zero-mod b) (omega arith)) ∙ zero-div b

zero_signed : (s : Bool) → pos 0 ≡ signed s 0
unfolding signed
zero_signed true = refl
zero_signed false = refl

pub zero_tick : (x : Float) → eq x +0 ≡ true → Some (pos 0) ≡ tick x
unfolding eq tick
zero_tick nan a = no a
zero_tick (inf s) a = no a
zero_tick (fin s m d) a =
    let h : m * up d * 1 ≡ 0 * down d = eqb-true _ _ (and_true _ _ a) in
    let z : m * up d ≡ 0 = omega arith in
    let n : nearest (m * up d) (down d) ≡ 0 = ap (λ (k : ℕ). nearest k (down d)) z ∙ nearest_zero (down d) (down_pos d) in
    ap Some (zero_signed s) ∙ kept_whole s 0 (omega arith) ∙ ap (kept s) (sym n)

pub nan_tick : (x : Float) → lt x +0 ≡ false → lt +0 x ≡ false → eq x +0 ≡ false → None ≡ tick x
unfolding lt eq tick
nan_tick nan a b c = refl
nan_tick (inf s) a b c = refl
nan_tick (fin false m d) a b c =
    let h : m * up d * 1 ≤ 0 * down d = ltb-false _ _ b in
    no (sym (simp (eq-eqb (m * up d * 1) (0 * down d) (omega arith)) at c))
nan_tick (fin true m d) a b c =
    let h : m * up d * 1 + 0 * down d ≤ 0 = ltb-false _ _ a in
    no (sym (simp (eq-eqb (m * up d * 1) (0 * down d) (omega arith), eq-eqb (m * up d * 1) 0 (omega arith)) at c))

pub ruleset ticking = (rules, neg_above, low_tick, high_tick, zero_tick, nan_tick)
