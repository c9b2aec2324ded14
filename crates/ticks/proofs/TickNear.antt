-- The whole number nearest to a number: its whole part, or one more, by how the number lies to its whole part and a
-- half. Assumes nothing.
use Rattle.std.proofs.Common.{◌≡◌, ℕ, ◌+◌, ◌*◌, ◌/◌, ◌%◌, ◌^◌, ◌<◌, ◌≤◌, Bool, true, false, cond, ◌||◌, T, eqb, ltb, ℤ, pos, negsuc, sym, refl, ap, ◌∙◌, subst, lt_of_lt_of_le, mul_assoc, div-lt_iff_lt-mul, add-mul, lt_of_mul-lt-mul_right, mul-lt-mul_of_pos_right, div-add-mod', le-div_iff_mul-le, mul-one, mul_right_comm, le_of_mul-le-mul_right, arith, lit<, lit≤, le→leb, lt→ltb, w64, Fits, rules, ltb-false, ltb-true, le-ltb, lt-ltb, eq-eqb, ne_eqb}
use native.Mathlib.Nat.{min-eq_left}
use lib.Ieee.{Float, nan, inf, fin, binary64, up, down, lt, of_int, to_unsigned, in_float, round}
use lib.Ieee.Exact.{HasValue, round_exact}
use lib.Ieee.Back.{round_whole}
use lib.Ieee.Scale.{round_same}
use lib.Ieee.Fits.{down_pos}
use Rattle.laws.specs.Binary64.{◌⊕◌, +0, ofℕ}
use Rattle.method.specs.Ticks.{tie, nearest}
use Rattle.ticks.specs.TickSize.{beyond, size}

-- ---- fractions: a = q * b + r, and m / d is q and a half. How a / b lies to m / d is how 2 r lies to b
module _ (a b q r m d : ℕ) (pd : 0 < d) (whole : q * b + r ≡ a) (val : m * 2 ≡ (q + q + 1) * d) where
  left : (a + a) * d ≡ a * d + a * d
  left = add-mul a a d

  right : (q + q + 1) * b * d ≡ m * b + m * b
  right = mul_right_comm (q + q + 1) b d ∙ ap (λ (k : ℕ). k * b) (sym val) ∙ mul_right_comm m 2 b ∙ omega arith

  spread : (q + q + 1) * b ≡ q * b + q * b + b
  spread = add-mul (q + q) 1 b ∙ ap (λ (k : ℕ). k + 1 * b) (add-mul q q b) ∙ omega arith

  under : a * d < m * b → r * 2 < b
  under h =
      let k : (a + a) * d < (q + q + 1) * b * d = omega (arith, left, right) in
      let l : a + a < (q + q + 1) * b = lt_of_mul-lt-mul_right d k in
      omega (arith, spread)

  over : m * b < a * d → b < r * 2
  over h =
      let k : (q + q + 1) * b * d < (a + a) * d = omega (arith, left, right) in
      let l : (q + q + 1) * b < a + a = lt_of_mul-lt-mul_right d k in
      omega (arith, spread)

  not_under : m * b ≤ a * d → b ≤ r * 2
  not_under h =
      let k : (q + q + 1) * b * d ≤ (a + a) * d = omega (arith, left, right) in
      let l : (q + q + 1) * b ≤ a + a = le_of_mul-le-mul_right k pd in
      omega (arith, spread)

  not_over : a * d ≤ m * b → r * 2 ≤ b
  not_over h =
      let k : (a + a) * d ≤ (q + q + 1) * b * d = omega (arith, left, right) in
      let l : a + a ≤ (q + q + 1) * b = le_of_mul-le-mul_right k pd in
      omega (arith, spread)

-- ---- the three cases of `nearest`, and between what it lies
pub nearest_low : (a b : ℕ) → a % b * 2 < b → nearest a b ≡ a / b
unfolding nearest
nearest_low a b h = simp (lt-ltb (a % b * 2) b h)

nearest_high : (a b : ℕ) → b < a % b * 2 → nearest a b ≡ a / b + 1
unfolding nearest
nearest_high a b h = let k : b ≤ a % b * 2 = omega arith in simp (le-ltb (a % b * 2) b k, lt-ltb b (a % b * 2) h)

nearest_tie : (a b : ℕ) → b ≤ a % b * 2 → a % b * 2 ≤ b → nearest a b ≡ tie (a / b)
unfolding nearest
nearest_tie a b h k = simp (le-ltb (a % b * 2) b h, le-ltb b (a % b * 2) k)

-- ---- the rule for halves: which of the two it takes
pub tie_even : (q : ℕ) → q % 2 ≡ 0 → q ≡ tie q
unfolding tie
tie_even q e = ap (λ b. cond b q (q + 1)) (sym (eq-eqb (q % 2) 0 e))

pub tie_odd : (q : ℕ) → (q % 2 ≡ 0 → ⊥) → q + 1 ≡ tie q
unfolding tie
tie_odd q e = ap (λ b. cond b q (q + 1)) (sym (ne_eqb (q % 2) 0 e))

-- all else that is asked of it
either : (even : Bool) (q : ℕ) → (q ≤ cond even q (q + 1)) × (cond even q (q + 1) ≤ q + 1)
either true q = (omega arith, omega arith)
either false q = (omega arith, omega arith)

tie_ge : (q : ℕ) → q ≤ tie q
unfolding tie
tie_ge q = (either (eqb (q % 2) 0) q).0

tie_le : (q : ℕ) → tie q ≤ q + 1
unfolding tie
tie_le q = (either (eqb (q % 2) 0) q).1

module _ (a b : ℕ) where
  -- whatever the two tests say
  one_of : (p q : Bool) → (a / b ≤ cond p (a / b) (cond q (a / b + 1) (tie (a / b)))) × (cond p (a / b) (cond q (a / b + 1) (tie (a / b))) ≤ a / b + 1)
  one_of true q = (omega arith, omega arith)
  one_of false true = (omega arith, omega arith)
  one_of false false = (tie_ge (a / b), tie_le (a / b))

  nearest_ge : a / b ≤ nearest a b
  unfolding nearest
  nearest_ge = (one_of (ltb (a % b * 2) b) (ltb b (a % b * 2))).0

  nearest_le : nearest a b ≤ a / b + 1
  unfolding nearest
  nearest_le = (one_of (ltb (a % b * 2) b) (ltb b (a % b * 2))).1

-- ---- q and a half is exact
abbrev mid : ℕ → Float
mid q = ofℕ q ⊕ fin false 1 (negsuc 0)

mid_value : (q : ℕ) → q ≤ 2 ^ 42 → HasValue (mid q) false (q + q + 1) 2
unfolding of_int lib.Ieee.add lib.Ieee.sum
mid_value q h = go (round binary64 false q 1) (round_whole binary64 false q (omega arith))
  where
    exact : HasValue (round binary64 false (q + q + 1) 2) false (q + q + 1) 2
    exact =
        let small : q + q + 1 < 2 ^ 53 = omega arith in
        let fine : (q + q + 1) * 2 ^ 1073 < 2 ^ 53 * 2 ^ 1073 = mul-lt-mul_of_pos_right small (lit< tt) in
        round_exact binary64 false (q + q + 1) 2 (q + q + 1) 1073 (lit< tt) small (lt_of_lt_of_le fine (lit≤ tt)) (sym (mul_assoc (q + q + 1) (2 ^ 1073) 2))

    go : (x : Float) → HasValue x false q 1 → HasValue (x ⊕ fin false 1 (negsuc 0)) false (q + q + 1) 2
    go (fin true m e) v = absurd (subst T v.0 tt)
    go nan v = elim v [ ]
    go (inf _) v = elim v [ ]
    go (fin false m e) v =
        let same : (m * up e * 2 + 1 * down e) * 2 ≡ (q + q + 1) * (down e * 2) =
        let w : m * up e ≡ q * down e = sym (mul-one (m * up e)) ∙ v.1 in
        omega (arith, add-mul (q + q) 1 (down e * 2), add-mul q q (down e * 2), mul_assoc q (down e) 2) in
        subst (λ (x : Float). HasValue x false (q + q + 1) 2) (sym (round_same binary64 false (m * up e * 2 + 1 * down e) (down e * 2) (q + q + 1) 2 (omega (arith, down_pos e)) (lit< tt) same)) exact

-- ---- y is above 0 and below 2 ^ 42, and q is its whole part
module _ (q m : ℕ) (e : ℤ) (hi : lt (fin false m e) beyond ≡ true) (is : q ≡ to_unsigned 64 (fin false m e)) where
  below : m * up e < 2 ^ 42 * down e
  unfolding lt
  below = let h : m * up e * 1 < 2 ^ 42 * down e = ltb-true (m * up e * 1) (2 ^ 42 * down e) hi in omega arith

  cut : m * up e / down e < 2 ^ 42
  cut = (div-lt_iff_lt-mul (down_pos e)).1 below

  quotient : q ≡ m * up e / down e
  unfolding to_unsigned
  quotient = is ∙ min-eq_left (let c : m * up e / down e < 2 ^ 42 = cut in omega arith)

  q_lt : q < 2 ^ 42
  q_lt = omega (arith, quotient, cut)

  whole_part : q * down e + m * up e % down e ≡ m * up e
  whole_part = ap (λ (k : ℕ). k * down e + m * up e % down e) quotient ∙ div-add-mod' (m * up e) (down e)

  sized : nearest (m * up e) (down e) ≡ size (fin false m e)
  unfolding size
  sized = omega (arith, nearest_le (m * up e) (down e), cut)

  -- the float n * 2 ^ d is q and a half
  module _ (n : ℕ) (d : ℤ) (v : HasValue (fin false n d) false (q + q + 1) 2) where
    at_low : lt (fin false m e) (fin false n d) ≡ true → q ≡ size (fin false m e)
    unfolding lt
    at_low h = quotient ∙ sym (nearest_low _ _ (under _ _ q _ (n * up d) _ (down_pos d) whole_part v.1 (ltb-true _ _ h))) ∙ sized

    at_high : lt (fin false n d) (fin false m e) ≡ true → q + 1 ≡ size (fin false m e)
    unfolding lt
    at_high h = ap (λ (k : ℕ). k + 1) quotient ∙ sym (nearest_high _ _ (over _ _ q _ (n * up d) _ (down_pos d) whole_part v.1 (ltb-true _ _ h))) ∙ sized

    at_tie : lt (fin false m e) (fin false n d) ≡ false → lt (fin false n d) (fin false m e) ≡ false → tie q ≡ size (fin false m e)
    unfolding lt
    at_tie h k =
        ap tie quotient
        ∙ sym (nearest_tie _ _ (not_under _ _ q _ (n * up d) _ (down_pos d) whole_part v.1 (ltb-false _ _ h)) (not_over _ _ q _ (n * up d) _ (down_pos d) whole_part v.1 (ltb-false _ _ k)))
        ∙ sized

record Located (y : Float) (q : ℕ) (h : Float) : Type 0 where
  small : q < 2 ^ 42
  low : lt y h ≡ true → q ≡ size y
  high : lt h y ≡ true → q + 1 ≡ size y
  half : lt y h ≡ false → lt h y ≡ false → tie q ≡ size y

pub no : {A : Type 0} → false ≡ true → A
no e = absurd (subst T (sym e) tt)

located : (y : Float) (q : ℕ) → lt +0 y ≡ true → lt y beyond ≡ true → q ≡ to_unsigned 64 y → Located y q (mid q)
unfolding lt
located nan q a b c = no a
located (inf true) q a b c = no a
located (inf false) q a b c = no b
located (fin true m e) q a b c = no a
located (fin false m e) q a b c = go (mid q) (mid_value q (let s : q < 2 ^ 42 = q_lt q m e b c in omega arith))
  where
    go : (h : Float) → HasValue h false (q + q + 1) 2 → Located (fin false m e) q h
    go (fin true n d) v = no (sym v.0)
    go nan v = elim v [ ]
    go (inf _) v = elim v [ ]
    go (fin false n d) v = record {
      small = q_lt q m e b c;
      low = at_low q m e b c n d v;
      high = at_high q m e b c n d v;
      half = at_tie q m e b c n d v;
    }

-- ---- what the needs of `rounded` ask
module _ (y : Float) (q : ℕ) (a : lt +0 y ≡ true) (b : lt y beyond ≡ true) (c : q ≡ to_unsigned 64 y) where
  pub near_small : q ≤ 2 ^ 42
  near_small = let s : q < 2 ^ 42 = (located y q a b c).small in omega arith

  pub near_fits : Fits w64 (q + 1)
  near_fits = let s : q ≤ 2 ^ 42 = near_small in omega arith

  pub near_float : T (in_float binary64 (pos q))
  unfolding in_float
  near_float = let s : q ≤ 2 ^ 42 = near_small in le→leb q (2 ^ 53) (omega arith)

  pub near_low : lt y (mid q) ≡ true → q ≡ size y
  near_low = (located y q a b c).low

  pub near_high : lt (mid q) y ≡ true → q + 1 ≡ size y
  near_high = (located y q a b c).high

  pub near_tie : (r : ℕ) → r ≡ tie q → lt y (mid q) ≡ false → lt (mid q) y ≡ false → r ≡ size y
  near_tie r e h k = e ∙ (located y q a b c).half h k

  -- either below or above, and which of them; or neither
  pub near_raised : (e : Bool) (r : ℕ) → e ≡ (lt y (mid q) || lt (mid q) y) → e ≡ true → r ≡ cond (lt (mid q) y) (q + 1) q → r ≡ size y
  near_raised e r f t h = h ∙ go (lt (mid q) y) refl (lt y (mid q)) refl (sym f ∙ t)
    where
      go : (j : Bool) → lt (mid q) y ≡ j → (i : Bool) → lt y (mid q) ≡ i → (i || j) ≡ true → cond j (q + 1) q ≡ size y
      go true k i l o = near_high k
      go false k true l o = near_low l
      go false k false l o = no o

  pub near_neither : (e : Bool) (r : ℕ) → e ≡ (lt y (mid q) || lt (mid q) y) → e ≡ false → r ≡ tie q → r ≡ size y
  near_neither e r f t h = go (lt y (mid q)) refl (lt (mid q) y) refl (sym f ∙ t)
    where
      go : (i : Bool) → lt y (mid q) ≡ i → (j : Bool) → lt (mid q) y ≡ j → (i || j) ≡ false → r ≡ size y
      go false l false k o = near_tie r h l k
      go false l true k o = no (sym o)
      go true l j k o = no (sym o)

-- the ends that the cut to a whole number asks
pub above_one : (y : Float) → lt +0 y ≡ true → T (lt (fin true 1 (pos 0)) y)
unfolding lt
above_one nan a = no a
above_one (inf true) a = no a
above_one (inf false) a = tt
above_one (fin true m e) a = no a
above_one (fin false m e) a = lt→ltb 0 (1 * down e + m * up e * 1) (omega (arith, down_pos e))

pub below_64 : (y : Float) → lt y beyond ≡ true → lt +0 y ≡ true → T (lt y (fin false 1 (pos 64)))
unfolding lt
below_64 nan b a = no a
below_64 (inf true) b a = no a
below_64 (inf false) b a = no b
below_64 (fin true m e) b a = no a
below_64 (fin false m e) b a = lt→ltb (m * up e * 1) (2 ^ 64 * down e) (let h : m * up e * 1 < 2 ^ 42 * down e = ltb-true _ _ b in omega (arith, down_pos e))

-- ---- at 2 ^ 42 and beyond
pub far : (y : Float) → lt +0 y ≡ true → lt y beyond ≡ false → 2 ^ 42 ≡ size y
unfolding lt size
far nan a b = no a
far (inf true) a b = no a
far (inf false) a b = refl
far (fin true m e) a b = no a
far (fin false m e) a b =
    let h : 2 ^ 42 * down e ≤ m * up e * 1 = ltb-false _ _ b in
    let k : 2 ^ 42 ≤ m * up e / down e = (le-div_iff_mul-le (down_pos e)).1 (omega arith) in
    omega (arith, nearest_ge (m * up e) (down e))

pub ruleset nears = (rules, near_small, near_fits, near_float, near_raised, near_neither, above_one, below_64, far)
