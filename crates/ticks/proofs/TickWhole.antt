-- A tick as a binary64 is exact, so that its tick is itself. Assumes nothing.
use Rattle.std.proofs.Common.{◌≡◌, ℕ, zero, suc, ◌*◌, ◌^◌, ◌<◌, ◌≤◌, Bool, true, false, leb, ℤ, pos, negsuc, nat_abs, sym, refl, ap, ◌∙◌, mul-one, mul-div_cancel, arith, leb→le, to_z-of_z, w64, SFits, to_z, of_z}
use native.Mathlib.Nat.{mul-mod_left}
use lib.Dec.{nleb→lt}
use lib.Ieee.{Float, nan, inf, fin, binary64, up, down, of_int, round}
use lib.Ieee.Exact.{HasValue}
use lib.Ieee.Back.{round_whole}
use lib.Ieee.Fits.{down_pos}
use Rattle.laws.specs.Binary64.{ofℤ}
use Rattle.laws.proofs.Bools.{split}
use Rattle.std.specs.Prelude.{Option, Some, None, unwrap_or}
use Rattle.method.specs.Ticks.{nearest, signed, kept, tick, whole_of}
use Rattle.ticks.proofs.TickNear.{nearest_low}
use Rattle.ticks.proofs.TickLaws.{kept_whole, kept_refused}

-- ---- a whole number is nearest to itself
nearest_whole : (n b : ℕ) → 0 < b → nearest (n * b) b ≡ n
nearest_whole n b h = nearest_low (n * b) b (rw (mul-mod_left n b) (omega arith)) ∙ mul-div_cancel n h

value_tick : (x : Float) (s : Bool) (n : ℕ) → n ≤ 2 ^ 41 → HasValue x s n 1 → tick x ≡ Some (signed s n)
unfolding tick
value_tick nan s n h v = absurd v
value_tick (inf t) s n h v = absurd v
value_tick (fin t m e) s n h v =
    let k : nearest (m * up e) (down e) ≡ n =
    ap (λ (a : ℕ). nearest a (down e)) (sym (mul-one (m * up e)) ∙ v.1) ∙ nearest_whole n (down e) (down_pos e) in
    ap (λ (u : Bool). kept u (nearest (m * up e) (down e))) v.0 ∙ ap (kept s) k ∙ sym (kept_whole s n h)

-- THE LAW: a tick that is held as a binary64 is read back
pub tick_whole : (z : ℤ) → nat_abs z ≤ 2 ^ 41 → tick (ofℤ z) ≡ Some z
unfolding of_int signed
tick_whole (pos n) h = value_tick (round binary64 false n 1) false n h (round_whole binary64 false n (omega arith))
tick_whole (negsuc n) h = value_tick (round binary64 true (suc n) 1) true (suc n) h (round_whole binary64 true (suc n) (omega arith))

pub whole_back : (z : ℤ) → nat_abs z ≤ 2 ^ 41 → whole_of (tick (ofℤ z)) ≡ z
unfolding whole_of
whole_back z h = ap whole_of (tick_whole z h)

-- ---- every tick is within 2 ^ 41: what `to_tick` gives, `whole_float` takes
signed_abs : (s : Bool) (n : ℕ) → nat_abs (signed s n) ≡ n
unfolding signed
signed_abs true zero = refl
signed_abs true (suc n) = refl
signed_abs false n = refl

kept_within : (s : Bool) (n : ℕ) (z : ℤ) → kept s n ≡ Some z → nat_abs z ≤ 2 ^ 41
kept_within s n z e = split (leb n (2 ^ 41))
    (λ t. let h : n ≤ 2 ^ 41 = leb→le n (2 ^ 41) t in let w : Some (signed s n) ≡ Some z = kept_whole s n h ∙ e in let k : signed s n ≡ z = cc in omega (arith, signed_abs s n, ap nat_abs k))
    (λ t. let w : None ≡ Some z = kept_refused s n (nleb→lt n (2 ^ 41) t) ∙ e in let f : ◌≡◌ {A = ℕ} 0 1 = cc in omega arith)

pub tick_within : (x : Float) (z : ℤ) → tick x ≡ Some z → nat_abs z ≤ 2 ^ 41
unfolding tick
tick_within nan z e = let f : ◌≡◌ {A = ℕ} 0 1 = cc in omega arith
tick_within (inf s) z e = let f : ◌≡◌ {A = ℕ} 0 1 = cc in omega arith
tick_within (fin s m d) z e = kept_within s (nearest (m * up d) (down d)) z e

-- a float that was rounded to its tick has that tick
pub tick_again : (x : Float) (z : ℤ) → tick x ≡ Some z → tick (ofℤ z) ≡ tick x
tick_again x z e = tick_whole z (tick_within x z e) ∙ sym e

-- ---- what `whole_back` asks of what `to_tick` gave
pub back_is : (x : Float) (t : Option ℤ) (r : ℤ) → SFits w64 r → t ≡ tick x → r ≡ unwrap_or t (pos 0) → to_z w64 (of_z w64 r) ≡ whole_of (tick x)
unfolding whole_of
back_is x t r f e q = to_z-of_z f ∙ q ∙ go t ∙ ap whole_of e
  where
    go : (u : Option ℤ) → unwrap_or u (pos 0) ≡ whole_of u
    go (Some z) = refl
    go None = refl

-- Where there is no tick, 0 is read. No proof cites it, since `back_is` says both cases: docs/ name it.
pub held_none : (x : Float) (t : Option ℤ) → t ≡ tick x → t ≡ None → pos 0 ≡ whole_of (tick x)
unfolding whole_of
held_none x t e w = ap whole_of (sym w ∙ e)
