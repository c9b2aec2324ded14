-- When a whole number fits an i64, by its size, and what a caller finds behind the bits. Assumes nothing.
use mathlib.Core.Path.{◌≡◌, ◌∙◌}
use Prim.Native.Nat.{ℕ, ◌+◌, ◌*◌, ◌^◌, ◌<◌, ◌≤◌}
use native.Mathlib.Nat.{mul-le-mul_right}
use native.Mathlib.Omega.{arith}
use borrow.Author.Rules.{rules}
use lib.IntN.{ℤ, pos, negsuc, nat_abs}
use lib.Signed.{mag, nat_abs-le}
use mir.Syntax.{w32, w64}
use mir.Val.{SFits, to_z, of_z}
use mir.Facts.{sfits_widen, to_z-of_z, to_z_pos}
use Rattle.laws.specs.Whole.{◌+ᶻ◌, ◌-ᶻ◌, ◌*ᶻ◌}
use Rattle.laws.proofs.Zed.{abs_times, abs_add, abs_sub}

mag_le : (z : ℤ) → mag z ≤ nat_abs z
mag_le (pos n) = omega arith
mag_le (negsuc n) = omega arith

-- ---- what fits
pub size_fits : (z : ℤ) → nat_abs z < 2 ^ 63 → SFits w64 z
size_fits z h = record { sfits = omega (arith, mag_le z) }

pub most_fits : (z : ℤ) (n : ℕ) → nat_abs z ≤ n → n < 2 ^ 63 → SFits w64 z
most_fits z n h k = size_fits z (omega arith)

pub sum_fits : (a b : ℤ) → nat_abs a + nat_abs b < 2 ^ 63 → SFits w64 (a +ᶻ b)
sum_fits a b h = size_fits (a +ᶻ b) (omega (arith, abs_add a b))

pub diff_fits : (a b : ℤ) → nat_abs a + nat_abs b < 2 ^ 63 → SFits w64 (a -ᶻ b)
diff_fits a b h = size_fits (a -ᶻ b) (omega (arith, abs_sub a b))

pub abs_product : (d : ℕ) (a : ℤ) (m : ℕ) → d ≤ m → nat_abs (pos d *ᶻ a) ≤ m * nat_abs a
abs_product d a m h = rw (abs_times d a) (mul-le-mul_right (nat_abs a) h)

pub product_fits : (d : ℕ) (a : ℤ) → d ≤ 6 → nat_abs a ≤ 2 ^ 42 → SFits w64 (pos d *ᶻ a)
product_fits d a h k = size_fits (pos d *ᶻ a) (omega (arith, abs_product d a 6 h))

pub wide_fits : {z : ℤ} → SFits w32 z → SFits w64 z
wide_fits f = sfits_widen tt f

pub narrow_fits : (z : ℤ) → nat_abs z < 2 ^ 31 → SFits w32 z
narrow_fits z h = record { sfits = omega (arith, mag_le z) }

-- ---- the machine's operations on bits, as they stand in the needs
pub abs_32 : (z : ℤ) → SFits w32 z → nat_abs z ≤ 2 ^ 31
abs_32 z f = nat_abs-le z f.sfits

-- ---- what a caller meets: an argument and a result stand behind their bits
pub asks_size : (a : ℤ) (n : ℕ) → SFits w64 a → nat_abs a < n → nat_abs (to_z w64 (of_z w64 a)) < n
asks_size a n f h = rw (to_z-of_z f) h

pub asks_most : (a : ℤ) (n : ℕ) → SFits w64 a → nat_abs a ≤ n → nat_abs (to_z w64 (of_z w64 a)) ≤ n
asks_most a n f h = rw (to_z-of_z f) h

pub asks_sum : (a b : ℤ) → SFits w64 a → SFits w64 b → nat_abs a + nat_abs b < 2 ^ 63 → nat_abs (to_z w64 (of_z w64 a)) + nat_abs (to_z w64 (of_z w64 b)) < 2 ^ 63
asks_sum a b f g h = rw (to_z-of_z f, to_z-of_z g) h

pub gives_sum : (a b r : ℤ) → SFits w64 a → SFits w64 b → r ≡ to_z w64 (of_z w64 a) +ᶻ to_z w64 (of_z w64 b) → r ≡ a +ᶻ b
gives_sum a b r f g e = e ∙ rw (to_z-of_z f, to_z-of_z g)

pub gives_diff : (a b r : ℤ) → SFits w64 a → SFits w64 b → r ≡ to_z w64 (of_z w64 a) -ᶻ to_z w64 (of_z w64 b) → r ≡ a -ᶻ b
gives_diff a b r f g e = e ∙ rw (to_z-of_z f, to_z-of_z g)

pub gives_product : (d : ℕ) (a r : ℤ) → SFits w64 a → r ≡ pos d *ᶻ to_z w64 (of_z w64 a) → r ≡ pos d *ᶻ a
gives_product d a r f e = e ∙ rw (to_z-of_z f)

pub gives_size : (a : ℤ) (n : ℕ) → SFits w64 a → n ≡ nat_abs (to_z w64 (of_z w64 a)) → n ≡ nat_abs a
gives_size a n f e = e ∙ rw (to_z-of_z f)

pub gives_size32 : (a : ℤ) (n : ℕ) → SFits w32 a → n ≡ nat_abs (to_z w32 (of_z w32 a)) → n ≡ nat_abs a
gives_size32 a n f e = e ∙ rw (to_z-of_z f)

pub gives_wide : (a r : ℤ) → SFits w32 a → r ≡ to_z w32 (of_z w32 a) → r ≡ a
gives_wide a r f e = e ∙ to_z-of_z f

pub result_is : (r z : ℤ) → SFits w64 r → r ≡ z → to_z w64 (of_z w64 r) ≡ z
result_is r z f e = to_z-of_z f ∙ e

pub ruleset wholes = (rules, size_fits, most_fits, sum_fits, diff_fits, product_fits, wide_fits, asks_size, asks_most, asks_sum, gives_sum, gives_diff, gives_product, gives_size, gives_size32, gives_wide, result_is)
