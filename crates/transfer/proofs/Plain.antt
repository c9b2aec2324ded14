-- Where what isn't air holds +0, the method's sums need no label, and go source row by source row. Assumes nothing.
use Prim.Native.Nat.{ℕ, zero, suc, ◌+◌, ◌-◌, ◌*◌, ◌/◌, ◌%◌, ◌^◌, ◌<◌, ◌≤◌}
use mathlib.Core.Path.{◌≡◌, refl, sym, ap, ◌∙◌}
use mathlib.Core.Bool.{Bool, true, false, ◌&&◌, cond}
use mathlib.Core.List.{List}
use native.Mathlib.Nat.{mul-le-mul, mul-suc}
use native.Mathlib.Omega.{arith}
use borrow.Author.Tests.{lt-ltb, le-leb, ne_eqb}
use lib.Dec.{ltb, leb, ltb→lt, leb→le}
use lib.ListN.{length}
use lib.Ieee.{Float, binary64}
use lib.Ieee.Fits.{mul-fits}
use Rattle.laws.specs.Loops.{up}
use Rattle.laws.specs.Binary64.{◌⊕◌, ◌⊗◌, +0, ofℕ}
use Rattle.laws.proofs.Bools.{and_l, and_r, so}
use Rattle.laws.proofs.Fill.{up_same}
use Rattle.laws.proofs.Zeros.{Plain, plain_zero, plain_sum, added, times_zero}
use Rattle.method.specs.declared.Sides.{Sides}
use Rattle.method.specs.Cast.{cells, number, along, label_at, is_air}
use Rattle.method.specs.Levels.{halved}
use Rattle.method.specs.Transfers.{axis_weight, value, drawn_by, given_to, weighted}
use Rattle.theory.specs.Quiet.{Quiet}
use Rattle.theory.specs.Sides.{x_axis, y_axis, z_axis}
use Rattle.theory.proofs.Numbers.{number_in, coordinates_in}
use Rattle.grid.specs.declared.place.Spot.{Spot}
use Rattle.grid.specs.Place.{SpotOf, in_box, place_at}
use Rattle.grid.proofs.Steps.{label_out}
use Rattle.transfer.specs.Transfer.{weight_of}
use Rattle.transfer.specs.Rows.{plain_term, four_of, two_of, drawn_at, given_at, drawn_sum, given_sum}
use Rattle.transfer.proofs.Laws.{term, draw_step, give_step, draws, gives}

-- ---- a place in the box
pub record InBox (g : Sides) (a b e : ℕ) : Type 0 where
  pub x_low : 0 < a
  pub x_high : a ≤ g.nx
  pub y_low : 0 < b
  pub y_high : b ≤ g.ny
  pub z_low : 0 < e
  pub z_high : e ≤ g.nz

module _ (g : Sides) (a b e : ℕ) where
  pub in_box_lem : in_box g a b e ≡ true → InBox g a b e
  in_box_lem h =
      let t0 = so h in
      let t1 = and_r (ltb 0 a) (leb a g.nx && (ltb 0 b && (leb b g.ny && (ltb 0 e && leb e g.nz)))) t0 in
      let t2 = and_r (leb a g.nx) (ltb 0 b && (leb b g.ny && (ltb 0 e && leb e g.nz))) t1 in
      let t3 = and_r (ltb 0 b) (leb b g.ny && (ltb 0 e && leb e g.nz)) t2 in
      let t4 = and_r (leb b g.ny) (ltb 0 e && leb e g.nz) t3 in
      record {
        x_low = ltb→lt 0 a (and_l (ltb 0 a) _ t0);
        x_high = leb→le a g.nx (and_l (leb a g.nx) _ t1);
        y_low = ltb→lt 0 b (and_l (ltb 0 b) _ t2);
        y_high = leb→le b g.ny (and_l (leb b g.ny) _ t3);
        z_low = ltb→lt 0 e (and_l (ltb 0 e) (leb e g.nz) t4);
        z_high = leb→le e g.nz (and_r (ltb 0 e) (leb e g.nz) t4);
      }

  pub place_number : InBox g a b e → place_at g a b e ≡ number g (a - 1) (b - 1) (e - 1)
  unfolding place_at
  place_number i = rw (lt-ltb 0 a i.x_low, le-leb a g.nx i.x_high, lt-ltb 0 b i.y_low, le-leb b g.ny i.y_high, lt-ltb 0 e i.z_low, le-leb e g.nz i.z_high)

  pub inside_place : in_box g a b e ≡ true → place_at g a b e < cells g
  inside_place h =
      let i = in_box_lem h in
      rw (place_number i) (number_in g (a - 1) (b - 1) (e - 1) (omega (arith, i.x_low, i.x_high)) (omega (arith, i.y_low, i.y_high)) (omega (arith, i.z_low, i.z_high)))

  pub outside_place : in_box g a b e ≡ false → place_at g a b e ≡ cells g
  unfolding place_at
  outside_place h = rw h

-- ---- a weight is small
axis_few : (q : ℕ) → axis_weight q ≤ 3
unfolding axis_weight
axis_few zero = omega arith
axis_few (suc zero) = omega arith
axis_few (suc (suc zero)) = omega arith
axis_few (suc (suc (suc zero))) = omega arith
axis_few (suc (suc (suc (suc q)))) = omega arith

weight_few : (i j k : ℕ) → weight_of i j k ≤ 2 ^ 53
unfolding weight_of
weight_few i j k = omega (arith, mul-le-mul (axis_few i) (mul-le-mul (axis_few j) (axis_few k)))

-- ---- no label is needed: one term, by whether its place is in the box; then all of them
module _ (ls : List ℕ) (u : List Float) (g : Sides) (all : length ls ≡ cells g) (still : Quiet g ls u) where
  no_air : (j : ℕ) → j ≡ cells g → is_air ls j ≡ false
  unfolding is_air
  no_air j e = ne_eqb (label_at ls j) 0 (λ z. absurd (omega (arith, label_out ls j (omega arith))))

  plain_term_lem : (a b c i j k : ℕ) (s : Float) → Plain s
      → Plain (plain_term u g a b c (weight_of i j k) s) × (term ls u (place_at g a b c) (weight_of i j k) s ≡ plain_term u g a b c (weight_of i j k) s)
  unfolding term plain_term
  plain_term_lem a b c i j k s h = go (in_box g a b c) (inside_place g a b c) (outside_place g a b c)
    where
      go : (t : Bool) → (t ≡ true → place_at g a b c < cells g) → (t ≡ false → place_at g a b c ≡ cells g)
          → Plain (cond t (s ⊕ ofℕ (weight_of i j k) ⊗ value u (place_at g a b c)) s)
          × (cond (is_air ls (place_at g a b c)) (s ⊕ ofℕ (weight_of i j k) ⊗ value u (place_at g a b c)) s ≡ cond t (s ⊕ ofℕ (weight_of i j k) ⊗ value u (place_at g a b c)) s)
      go true inside outside =
          let w = weight_of i j k in
          let p = place_at g a b c in
          (plain_sum (ofℕ w ⊗ value u p) h (mul-fits binary64 (ofℕ w) (value u p)), added (is_air ls p) (ofℕ w ⊗ value u p) h (λ n. ap (◌⊗◌ (ofℕ w)) (still.at p (inside refl) n) ∙ times_zero w (weight_few i j k)))
      go false inside outside = (h, ap (λ t. cond t (s ⊕ ofℕ (weight_of i j k) ⊗ value u (place_at g a b c)) s) (no_air (place_at g a b c) (outside refl)))

plain_loop : (f h : ℕ → Float → Float) → ((t : ℕ) (s : Float) → Plain s → Plain (h t s) × (f t s ≡ h t s)) → (n : ℕ) → Plain (up h n +0) × (up f n +0 ≡ up h n +0)
unfolding up
plain_loop f h e zero = (plain_zero, refl)
plain_loop f h e (suc n) =
    let r = plain_loop f h e n in
    let k = e n (up h n +0) r.0 in
    (k.0, ap (f n) r.1 ∙ k.1)

-- ---- turns in groups
up_add : (f : ℕ → Float → Float) (m n : ℕ) (s : Float) → up f (m + n) s ≡ up (λ i. f (m + i)) n (up f m s)
unfolding up
up_add f m zero s = let k : m + 0 ≡ m = omega arith in ap (λ n. up f n s) k
up_add f m (suc n) s = let k : m + suc n ≡ suc (m + n) = omega arith in ap (λ n. up f n s) k ∙ ap (f (m + n)) (up_add f m n s)

groups : (f : ℕ → Float → Float) (k r : ℕ) (s : Float) → up f (k * r) s ≡ up (λ r a. up (λ q. f (k * r + q)) k a) r s
unfolding up
groups f k zero s = let z : k * 0 ≡ 0 = omega arith in ap (λ n. up f n s) z
groups f k (suc r) s =
    let z : k * suc r ≡ k * r + k = mul-suc k r in
    ap (λ n. up f n s) z ∙ up_add f (k * r) k s ∙ ap (up (λ q. f (k * r + q)) k) (groups f k r s)

-- ---- a term at places that are equal
same_term : (u : List Float) (g : Sides) {a b c i j k a' b' c' i' j' k' : ℕ} {s s' : Float} → a ≡ a' → b ≡ b' → c ≡ c' → i ≡ i' → j ≡ j' → k ≡ k' → s ≡ s'
    → plain_term u g a b c (weight_of i j k) s ≡ plain_term u g a' b' c' (weight_of i' j' k') s'
same_term u g p q r x y z e = cc

-- ---- restriction
module _ (u : List Float) (g : Sides) (x y z : ℕ) where
  plain_draw : ℕ → Float → Float
  plain_draw t = plain_term u g (2 * x + t % 4) (2 * y + t / 4 % 4) (2 * z + t / 16) (weight_of (t % 4) (t / 4 % 4) (t / 16))

  draw_turn : (r q p : ℕ) (s s' : Float) → q < 4 → 2 * x + q ≡ p → s ≡ s' → plain_draw (4 * r + q) s ≡ plain_term u g p (2 * y + r % 4) (2 * z + r / 4) (weight_of q (r % 4) (r / 4)) s'
  unfolding plain_draw
  draw_turn r q p s s' l e h =
      let i : (4 * r + q) % 4 ≡ q = omega arith in
      let d : (4 * r + q) / 4 ≡ r = omega arith in
      let j : (4 * r + q) / 4 % 4 ≡ r % 4 = ap (λ n. n % 4) d in
      let k : (4 * r + q) / 16 ≡ r / 4 = omega arith in
      same_term u g (ap (λ n. 2 * x + n) i ∙ e) (ap (λ n. 2 * y + n) j) (ap (λ n. 2 * z + n) k) i j k h

  draw_four : (r : ℕ) (a : Float) → up (λ q. plain_draw (4 * r + q)) 4 a ≡ four_of u g x (2 * y + r % 4) (2 * z + r / 4) (r % 4) (r / 4) a
  unfolding up four_of
  draw_four r a =
      draw_turn r 3 (2 * x + 3) _ _ (omega arith) refl
      (draw_turn r 2 (2 * x + 2) _ _ (omega arith) refl (draw_turn r 1 (2 * x + 1) _ _ (omega arith) refl (draw_turn r 0 (2 * x) _ _ (omega arith) (omega arith) refl)))

  draw_rows : up plain_draw (4 * 16) +0 ≡ drawn_at g u x y z
  unfolding drawn_at
  draw_rows = groups plain_draw 4 16 +0 ∙ up_same _ _ +0 16 (λ r a l. draw_four r a)

pub drawn_sum_lem : (ls : List ℕ) (u : List Float) (g : Sides) (c : ℕ) → length ls ≡ cells g → Quiet g ls u → c < cells (halved g) → drawn_sum g u c ≡ weighted ls u (drawn_by g c)
unfolding drawn_sum draw_step plain_draw
drawn_sum_lem ls u g c all still l =
    let h = halved g in
    let p : Spot = record { x = along (x_axis h) c; y = along (y_axis h) c; z = along (z_axis h) c } in
    let i = coordinates_in h c l in
    let s : SpotOf (halved g) c p = record { is_x = refl; is_y = refl; is_z = refl; in_x = i.in_x; in_y = i.in_y; in_z = i.in_z } in
    sym (draws ls u g c p s
    ∙ (plain_loop (draw_step ls u g p) (plain_draw u g p.x p.y p.z) (λ t a k. plain_term_lem ls u g all still _ _ _ _ _ _ a k) 64).1
    ∙ draw_rows u g p.x p.y p.z)

-- ---- prolongation
module _ (u : List Float) (h : Sides) (x y z : ℕ) where
  plain_give : ℕ → Float → Float
  plain_give t =
      plain_term u h ((x + 1) / 2 + t % 2) ((y + 1) / 2 + t / 2 % 2) ((z + 1) / 2 + t / 4) (weight_of (3 - x % 2 - 2 * (t % 2)) (3 - y % 2 - 2 * (t / 2 % 2)) (3 - z % 2 - 2 * (t / 4)))

  give_turn : (r q p i : ℕ) (s s' : Float) → q < 2 → (x + 1) / 2 + q ≡ p → 3 - x % 2 - 2 * q ≡ i → s ≡ s'
      → plain_give (2 * r + q) s ≡ plain_term u h p ((y + 1) / 2 + r % 2) ((z + 1) / 2 + r / 2) (weight_of i (3 - y % 2 - 2 * (r % 2)) (3 - z % 2 - 2 * (r / 2))) s'
  unfolding plain_give
  give_turn r q p i s s' l e f k =
      let a : (2 * r + q) % 2 ≡ q = omega arith in
      let d : (2 * r + q) / 2 ≡ r = omega arith in
      let b : (2 * r + q) / 2 % 2 ≡ r % 2 = ap (λ n. n % 2) d in
      let c : (2 * r + q) / 4 ≡ r / 2 = omega arith in
      same_term u h (ap (λ n. (x + 1) / 2 + n) a ∙ e) (ap (λ n. (y + 1) / 2 + n) b) (ap (λ n. (z + 1) / 2 + n) c)
      (ap (λ n. 3 - x % 2 - 2 * n) a ∙ f) (ap (λ n. 3 - y % 2 - 2 * n) b) (ap (λ n. 3 - z % 2 - 2 * n) c) k

  give_two : (r : ℕ) (a : Float)
      → up (λ q. plain_give (2 * r + q)) 2 a ≡ two_of u h x ((y + 1) / 2 + r % 2) ((z + 1) / 2 + r / 2) (3 - y % 2 - 2 * (r % 2)) (3 - z % 2 - 2 * (r / 2)) a
  unfolding up two_of
  give_two r a =
      give_turn r 1 ((x + 1) / 2 + 1) (1 - x % 2) _ _ (omega arith) refl (omega arith) (give_turn r 0 ((x + 1) / 2) (3 - x % 2) _ _ (omega arith) (omega arith) (omega arith) refl)

  give_rows : up plain_give (2 * 4) +0 ≡ given_at h u x y z
  unfolding given_at
  give_rows = groups plain_give 2 4 +0 ∙ up_same _ _ +0 4 (λ r a l. give_two r a)

given_plain : (lc : List ℕ) (w : List Float) (g : Sides) (c : ℕ) → length lc ≡ cells (halved g) → Quiet (halved g) lc w → c < cells g → given_sum g w c ≡ weighted lc w (given_to g c)
unfolding given_sum give_step plain_give
given_plain lc w g c all still l =
    let p : Spot = record { x = along (x_axis g) c; y = along (y_axis g) c; z = along (z_axis g) c } in
    let i = coordinates_in g c l in
    let s : SpotOf g c p = record { is_x = refl; is_y = refl; is_z = refl; in_x = i.in_x; in_y = i.in_y; in_z = i.in_z } in
    sym (gives lc w g c p s
    ∙ (plain_loop (give_step lc w (halved g) p) (plain_give w (halved g) p.x p.y p.z) (λ t a k. plain_term_lem lc w (halved g) all still _ _ _ _ _ _ a k) 8).1
    ∙ give_rows w (halved g) p.x p.y p.z)

pub given_sum_lem : (lc : List ℕ) (w : List Float) (g h : Sides) (c : ℕ) → h ≡ halved g → length lc ≡ cells h → Quiet h lc w → c < cells g → given_sum g w c ≡ weighted lc w (given_to g c)
given_sum_lem lc w g h c e all still l = given_plain lc w g c (all ∙ ap cells e) (rw e at still) l
