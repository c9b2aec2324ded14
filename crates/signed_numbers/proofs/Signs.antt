-- A signed number as the code reads it from its bits, by its sign, at any width. Assumes nothing.
use mathlib.Core.Path.{◌≡◌, refl}
use mathlib.Core.Bool.{true, false, true≢false}
use native.Mathlib.Omega.{arith}
use borrow.Author.Tests.{ltb-true}
use lib.IntN.{ℤ, pos, negsuc}
use lib.Signed.{lt_z, mag}
use mir.Syntax.{Width}
use mir.Val.{SFits, to_z, of_z}
use mir.Facts.{to_z-of_z}

negative : (v : ℤ) → lt_z v (pos 0) ≡ true → v ≡ negsuc (mag v)
negative (pos n) e = absurd (omega (arith, ltb-true n 0 e))
negative (negsuc n) e = refl

positive : (v : ℤ) → lt_z v (pos 0) ≡ false → v ≡ pos (mag v)
positive (pos n) e = refl
positive (negsuc n) e = absurd (true≢false e)

-- v as the code reads it from its bits, at any width
module _ {w : Width} (v : ℤ) (f : SFits w v) where
  pub same : to_z w (of_z w v) ≡ v
  same = to_z-of_z f

  module _ (e : lt_z (to_z w (of_z w v)) (pos 0) ≡ true) where
    pub below : v ≡ negsuc (mag v)
    below = negative v (rw same at e)

  pub above : lt_z (to_z w (of_z w v)) (pos 0) ≡ false → v ≡ pos (mag v)
  above e = positive v (rw same at e)
