-- ℤ by differences of naturals, so that `omega` does its algebra. `P z` and `M z` are z's positive and negative part.
-- `Lin z` is z written as a difference p - m; `lin` is the set by which `search` writes a sum, a product, a negation
-- so. Assumes nothing.
use mathlib.Core.Path.{◌≡◌, refl, ap, ◌∙◌}
use mathlib.Core.Bool.{Bool, true, false, not, cond}
use Prim.Native.Nat.{ℕ, zero, suc, ◌+◌, ◌*◌, ◌-◌, ◌<◌, ◌≤◌, min}
use native.Mathlib.Omega.{arith}
use lib.Dec.{T, ltb, ltb→lt, nltb→le, le→leb, leb→le}
use lib.IntN.{ℤ, pos, negsuc, neg_ℤ, nat_abs, ◌+ℤ◌, ◌*ℤ◌, sub_ℕ}
use lib.Signed.{◌≤ℤ◌, ◌<ℤ◌, le_z, lt_z}
use Rattle.laws.specs.Whole.{◌+ᶻ◌, ◌-ᶻ◌, ◌*ᶻ◌, neg}

abbrev pub P : ℤ → ℕ
P (pos n) = n
P (negsuc n) = 0

abbrev pub M : ℤ → ℕ
M (pos n) = 0
M (negsuc n) = suc n

-- ---- what the operations do to the parts
sub_parts : (a b : ℕ) → P (sub_ℕ a b) + b ≡ a + M (sub_ℕ a b)
sub_parts a b = go (ltb a b) (λ t. ltb→lt a b t) (λ t. nltb→le a b t)
  where
    go : (c : Bool) → (T c → a < b) → (T (not c) → b ≤ a) → P (cond c (negsuc (b - suc a)) (pos (a - b))) + b ≡ a + M (cond c (negsuc (b - suc a)) (pos (a - b)))
    go true f g = let h : a < b = f tt in omega arith
    go false f g = let h : b ≤ a = g tt in omega arith

pub add_parts : (x y : ℤ) → P (x +ℤ y) + (M x + M y) ≡ (P x + P y) + M (x +ℤ y)
add_parts (pos a) (pos b) = omega arith
add_parts (pos a) (negsuc b) = omega (arith, sub_parts a (suc b))
add_parts (negsuc a) (pos b) = omega (arith, sub_parts b (suc a))
add_parts (negsuc a) (negsuc b) = omega arith

neg_p : (x : ℤ) → P (neg_ℤ x) ≡ M x
neg_p (pos zero) = refl
neg_p (pos (suc n)) = refl
neg_p (negsuc n) = refl

neg_m : (x : ℤ) → M (neg_ℤ x) ≡ P x
neg_m (pos zero) = refl
neg_m (pos (suc n)) = refl
neg_m (negsuc n) = refl

mul_parts : (x y : ℤ) → P (x *ℤ y) + (P x * M y + M x * P y) ≡ (P x * P y + M x * M y) + M (x *ℤ y)
mul_parts (pos a) (pos b) = omega arith
mul_parts (pos a) (negsuc b) = omega (arith, neg_p (pos (a * suc b)), neg_m (pos (a * suc b)))
mul_parts (negsuc a) (pos b) = omega (arith, neg_p (pos (suc a * b)), neg_m (pos (suc a * b)))
mul_parts (negsuc a) (negsuc b) = omega arith

parts_eq : (x y : ℤ) → P x + M y ≡ P y + M x → x ≡ y
parts_eq (pos a) (pos b) h = ap pos (omega arith)
parts_eq (pos a) (negsuc b) h = absurd (omega arith)
parts_eq (negsuc a) (pos b) h = absurd (omega arith)
parts_eq (negsuc a) (negsuc b) h = ap negsuc (omega arith)

parts_le' : (x y : ℤ) → P x + M y ≤ P y + M x → T (le_z x y)
parts_le' (pos a) (pos b) h = le→leb a b (omega arith)
parts_le' (pos a) (negsuc b) h = absurd (omega arith)
parts_le' (negsuc a) (pos b) h = tt
parts_le' (negsuc a) (negsuc b) h = le→leb b a (omega arith)

le_parts' : (x y : ℤ) → T (le_z x y) → P x + M y ≤ P y + M x
le_parts' (pos a) (pos b) h = omega (arith, leb→le a b h)
le_parts' (pos a) (negsuc b) h = absurd h
le_parts' (negsuc a) (pos b) h = omega arith
le_parts' (negsuc a) (negsuc b) h = omega (arith, leb→le b a h)

lt_parts' : (x y : ℤ) → T (lt_z x y) → P x + M y < P y + M x
lt_parts' (pos a) (pos b) h = omega (arith, ltb→lt a b h)
lt_parts' (pos a) (negsuc b) h = absurd h
lt_parts' (negsuc a) (pos b) h = omega arith
lt_parts' (negsuc a) (negsuc b) h = omega (arith, ltb→lt b a h)

pub lt_parts : {x y : ℤ} → x <ℤ y → P x + M y < P y + M x
lt_parts {x} {y} h = lt_parts' x y h.lt

pub le_parts : {x y : ℤ} → x ≤ℤ y → P x + M y ≤ P y + M x
le_parts {x} {y} h = le_parts' x y h.le

pub parts_le : {x y : ℤ} → P x + M y ≤ P y + M x → x ≤ℤ y
parts_le {x} {y} h = record { le = parts_le' x y h }

-- ---- an integer as a difference
pub record Lin (z : ℤ) : Type 0 where
  pub p : ℕ
  pub m : ℕ
  pub is : P z + m ≡ p + M z

abbrev pub at : (z : ℤ) → Lin z
at z = record { p = P z; m = M z; is = refl }

abbrev pub lin_pos : (n : ℕ) → Lin (pos n)
lin_pos n = record { p = n; m = 0; is = refl }

pub add_is : (x y : ℤ) (a : Lin x) (b : Lin y) → P (x +ᶻ y) + (a.m + b.m) ≡ (a.p + b.p) + M (x +ᶻ y)
unfolding ◌+ᶻ◌
add_is x y a b = omega (arith, add_parts x y)

abbrev pub lin_add : {x y : ℤ} → Lin x → Lin y → Lin (x +ᶻ y)
lin_add {x} {y} a b = record { p = a.p + b.p; m = a.m + b.m; is = add_is x y a b }

pub neg_is : (x : ℤ) (a : Lin x) → P (neg x) + a.p ≡ a.m + M (neg x)
unfolding neg
neg_is x a = omega (arith, neg_p x, neg_m x)

abbrev pub lin_neg : {x : ℤ} → Lin x → Lin (neg x)
lin_neg {x} a = record { p = a.m; m = a.p; is = neg_is x a }

pub mul_is : (x y : ℤ) (a : Lin x) (b : Lin y) → P (x *ᶻ y) + (a.p * b.m + a.m * b.p) ≡ (a.p * b.p + a.m * b.m) + M (x *ᶻ y)
unfolding ◌*ᶻ◌
mul_is x y a b = omega (arith, mul_parts x y, ap (λ t. t * b.p) a.is, ap (λ t. t * b.m) a.is, ap (λ t. P x * t) b.is, ap (λ t. M x * t) b.is)

abbrev pub lin_mul : {x y : ℤ} → Lin x → Lin y → Lin (x *ᶻ y)
lin_mul {x} {y} a b = record { p = a.p * b.p + a.m * b.m; m = a.p * b.m + a.m * b.p; is = mul_is x y a b }

-- both sides of an equation or an order
pub data Both (x y : ℤ) : Type 0 where
  both : Lin x → Lin y → Both x y

abbrev pub lo : {x y : ℤ} → Both x y → ℕ
lo (both a b) = a.p + b.m

abbrev pub hi : {x y : ℤ} → Both x y → ℕ
hi (both a b) = b.p + a.m

pub ruleset lin = (both, lin_add, lin_mul, lin_neg, lin_pos)

-- ---- in and out: `z_eq (search lin) (omega arith)`, with a `let X = at x in` above for each atom
pub z_eq : {x y : ℤ} (s : Both x y) → lo s ≡ hi s → x ≡ y
z_eq {x} {y} (both a b) h = parts_eq x y (omega (arith, a.is, b.is))

pub z_le : {x y : ℤ} (s : Both x y) → lo s ≤ hi s → x ≤ℤ y
z_le {x} {y} (both a b) h = parts_le (omega (arith, a.is, b.is))

pub eq_z : {x y : ℤ} (s : Both x y) → x ≡ y → lo s ≡ hi s
eq_z {x} {y} (both a b) h = omega (arith, a.is, b.is, ap P h, ap M h)

pub le_of_both : {x y : ℤ} (s : Both x y) → x ≤ℤ y → lo s ≤ hi s
le_of_both {x} {y} (both a b) h = omega (arith, a.is, b.is, le_parts h)

pub lt_of_both : {x y : ℤ} (s : Both x y) → x <ℤ y → lo s < hi s
lt_of_both {x} {y} (both a b) h = omega (arith, a.is, b.is, lt_parts h)

-- the parts of a negation, and of a natural's multiple
pub neg_parts : (z : ℤ) → (P (neg z) ≡ M z) × (M (neg z) ≡ P z)
unfolding neg
neg_parts z = (neg_p z, neg_m z)

pub mul_pos_parts : (m : ℕ) (z : ℤ) → (P (pos m *ᶻ z) ≡ m * P z) × (M (pos m *ᶻ z) ≡ m * M z)
unfolding ◌*ᶻ◌
mul_pos_parts m (pos n) = (refl, omega arith)
mul_pos_parts m (negsuc n) = (neg_p (pos (m * suc n)) ∙ omega arith, neg_m (pos (m * suc n)))

-- ---- sizes
pub abs_parts : (z : ℤ) → nat_abs z ≡ P z + M z
abs_parts (pos n) = omega arith
abs_parts (negsuc n) = omega arith

pub abs_neg : (z : ℤ) → nat_abs (neg z) ≡ nat_abs z
abs_neg z = omega (arith, abs_parts z, abs_parts (neg z), (neg_parts z).0, (neg_parts z).1)

pub abs_times : (m : ℕ) (z : ℤ) → nat_abs (pos m *ᶻ z) ≡ m * nat_abs z
abs_times m z = abs_parts (pos m *ᶻ z) ∙ omega (arith, (mul_pos_parts m z).0, (mul_pos_parts m z).1, ap (λ t. m * t) (abs_parts z))

pub abs_le : (z : ℤ) (b : ℕ) → z ≤ℤ pos b → neg z ≤ℤ pos b → nat_abs z ≤ b
abs_le (pos n) b h k = omega (arith, le_parts h)
abs_le (negsuc n) b h k = omega (arith, le_parts k, (neg_parts (negsuc n)).0, (neg_parts (negsuc n)).1)

-- a sum is no larger than its parts together
pub abs_add : (a b : ℤ) → nat_abs (a +ᶻ b) ≤ nat_abs a + nat_abs b
unfolding ◌+ᶻ◌
abs_add a b = omega (arith, abs_parts a, abs_parts b, abs_parts (a +ℤ b), add_parts a b, one_part (a +ℤ b))
  where
    one_part : (z : ℤ) → min (P z) (M z) ≡ 0
    one_part (pos n) = omega arith
    one_part (negsuc n) = omega arith

pub abs_sub : (a b : ℤ) → nat_abs (a -ᶻ b) ≤ nat_abs a + nat_abs b
abs_sub a b = omega (arith, abs_add a (neg b), abs_neg b)
