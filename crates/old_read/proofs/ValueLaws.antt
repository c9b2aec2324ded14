-- Laws of values of two bytes, times the unit: the product, and a body's cells. Assumes nothing.
use mathlib.Core.Path.{◌≡◌, refl, sym, ap, ap₂, ◌∙◌}
use mathlib.Core.Bool.{Bool, true, false, cond}
use mathlib.Core.List.{List, [], ◌∷◌}
use Prim.Native.Nat.{ℕ, suc, ◌+◌, ◌-◌, ◌*◌, ◌^◌, ◌≤◌, ◌<◌}
use native.Mathlib.Nat.{mul-le-mul}
use native.Mathlib.Omega.{arith}
use borrow.Author.Rules.{rules}
use lib.Dec.{ltb}
use lib.ListN.{length, get_or}
use lib.IntN.{ℤ, pos, negsuc, nat_abs, ◌*ℤ◌}
use lib.Signed.{mag, nat_abs-le}
use mir.Syntax.{w16, w32}
use mir.Val.{SFits, to_z, of_z}
use mir.Facts.{to_z-of_z, to_z_pos}
use Rattle.std.specs.Int.{from_be_bytes}
use Rattle.laws.specs.Whole.{◌*ᶻ◌}
use Rattle.laws.proofs.Lists.{get_or_any}
use Rattle.laws.proofs.Zed.{abs_times}
use Rattle.method.specs.Cast.{label_at, widest}
use Rattle.method.specs.Form.{most_first}
use Rattle.method.specs.OldForm.{short_signed, old_value_read}
use Rattle.theory.proofs.OldBytes.{two_at}
use Rattle.old_read.specs.OldBody.{old_value_in, bad_old_value}

-- ---- two bytes
as_short : (w : ℕ) → to_z w16 w ≡ short_signed w
unfolding short_signed
as_short w = go (ltb w 32768) refl
  where
    go : (b : Bool) → ltb w 32768 ≡ b → to_z w16 w ≡ cond (ltb w 32768) (pos w) (negsuc (65536 - suc w))
    go true e = rw e
    go false e = rw e

pub short_is : (a b : ℕ) (r : ℤ) → SFits w16 r → r ≡ to_z w16 (from_be_bytes w16 (a ∷ b ∷ [])) → to_z w16 (of_z w16 r) ≡ short_signed (most_first 0 (a ∷ b ∷ []))
unfolding most_first
short_is a b r f e =
    let q : from_be_bytes w16 (a ∷ b ∷ []) ≡ 256 * (256 * 0 + a) + b = omega arith in
    to_z-of_z {w = w16} f ∙ e ∙ ap (to_z w16) q ∙ as_short (256 * (256 * 0 + a) + b)

-- ---- the product
mag_le : (z : ℤ) → mag z ≤ nat_abs z
mag_le (pos n) = omega arith
mag_le (negsuc n) = omega arith

narrow_fits : (z : ℤ) → nat_abs z < 2 ^ 31 → SFits w32 z
narrow_fits z h = record { sfits = omega (arith, mag_le z) }

pub product_is : (u : ℕ) (w r : ℤ) → u ≤ 1000 → SFits w16 w → r ≡ w → to_z w32 (of_z w32 (to_z w32 u *ℤ to_z w32 (of_z w32 r))) ≡ pos u *ᶻ w
unfolding ◌*ᶻ◌
product_is u w r h f e =
    let s : nat_abs w ≤ 32768 = nat_abs-le w f.sfits in
    let small : nat_abs w < 2 ^ 31 = omega arith in
    let most : nat_abs (pos u *ℤ w) < 2 ^ 31 = omega (arith, abs_times u w, mul-le-mul h s) in
    rw (e, to_z_pos w32 {n = u} (omega arith), to_z-of_z {w = w32} (narrow_fits w small)) (to_z-of_z {w = w32} (narrow_fits (pos u *ℤ w) most))

-- ---- a value
pub value_of_cell : (body : List ℕ) (u c : ℕ) (w v : ℤ) → 2 * c + 2 ≤ length body → w ≡ short_signed (most_first 0 (get_or body (2 * c) 0 ∷ get_or body (2 * c + 1) 0 ∷ []))
    → v ≡ pos u *ᶻ w → v ≡ old_value_in body u c
unfolding old_value_in old_value_read
value_of_cell body u c w v l e g = g ∙ ap (λ x. pos u *ᶻ x) (e ∙ ap (λ x. short_signed (most_first 0 x)) (sym (two_at body (2 * c) l)))

pub bad_of_cell : (body ls : List ℕ) (u c : ℕ) (v : ℤ) (r : Bool) → c < length ls → SFits w32 v → v ≡ old_value_in body u c
    → r ≡ ltb (widest (get_or ls c 0)) (nat_abs (to_z w32 (of_z w32 v))) → r ≡ bad_old_value body ls u c
unfolding bad_old_value label_at
bad_of_cell body ls u c v r l f e q =
    let g : get_or ls c 0 ≡ get_or ls c 2 = get_or_any ls c 0 2 l in
    q ∙ ap₂ (λ x y. ltb (widest x) (nat_abs y)) g (to_z-of_z f ∙ e)

pub ruleset values = (rules, short_is, product_is, value_of_cell, bad_of_cell)
