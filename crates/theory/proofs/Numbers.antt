-- A cell's number and its coordinates determine each other. Assumes nothing.
use mathlib.Core.Path.{◌≡◌, ap, ◌∙◌}
use Prim.Native.Nat.{ℕ, zero, suc, ◌+◌, ◌*◌, ◌/◌, ◌%◌, ◌<◌}
use native.Mathlib.Nat.{mod-lt, mod-eq_of_lt, div-eq_of_lt, div-one, div-div-eq-div-mul, add-mul-div_left, add-mul-mod_self_left, div-add-mod, div-lt_iff_lt-mul, mul-le-mul_left, mul-pos}
use native.Mathlib.Omega.{arith}
use Rattle.method.specs.declared.Sides.{Sides}
use Rattle.method.specs.Cast.{cells, number, along}
use Rattle.theory.specs.Sides.{x_axis, y_axis, z_axis}

-- digits: a place below m, and m to each of the places above it
below : (m i q h : ℕ) → i < m → q < h → i + m * q < m * h
below m i q h l k = omega (arith, mul-le-mul_left m k)

low : (m i q : ℕ) → i < m → (i + m * q) % m ≡ i
low m i q l = add-mul-mod_self_left i m q ∙ mod-eq_of_lt l

high : (m i q : ℕ) → i < m → (i + m * q) / m ≡ q
high m i q l = add-mul-div_left i q (omega arith) ∙ omega (arith, div-eq_of_lt l)

-- ---- from the coordinates to the number
pub number_in : (s : Sides) (i j k : ℕ) → i < s.nx → j < s.ny → k < s.nz → number s i j k < cells s
unfolding number cells
number_in s i j k li lj lk = below s.nx i (j + s.ny * k) (s.ny * s.nz) li (below s.ny j k s.nz lj lk)

-- c stands at i, j, k
pub record Coordinates (s : Sides) (c i j k : ℕ) : Type 0 where
  pub at_x : along (x_axis s) c ≡ i
  pub at_y : along (y_axis s) c ≡ j
  pub at_z : along (z_axis s) c ≡ k

pub number_coordinates : (s : Sides) (i j k : ℕ) → i < s.nx → j < s.ny → k < s.nz → Coordinates s (number s i j k) i j k
unfolding number along
number_coordinates s i j k li lj lk = record {
  at_x = rw div-one (low s.nx i (j + s.ny * k) li);
  at_y = rw (high s.nx i (j + s.ny * k) li) (low s.ny j k lj);
  at_z = rw (← div-div-eq-div-mul (i + s.nx * (j + s.ny * k)) s.nx s.ny, high s.nx i (j + s.ny * k) li, high s.ny j k lj) (mod-eq_of_lt lk);
}

-- ---- from the number to the coordinates
some_left : (c a b : ℕ) → c < a * b → 0 < a
some_left c zero b h = omega arith
some_left c (suc a) b h = omega arith

some_right : (c a b : ℕ) → c < a * b → 0 < b
some_right c a zero h = omega arith
some_right c a (suc b) h = omega arith

-- a number below a * (b * d) has a place below a, one below b and one below d
module _ (a b d c : ℕ) (l : c < a * (b * d)) where
  a_pos : 0 < a
  a_pos = some_left c a (b * d) l

  above : c / a < b * d
  above = (div-lt_iff_lt-mul a_pos).1 (omega arith)

  b_pos : 0 < b
  b_pos = some_left (c / a) b d above

  pub top : c / (a * b) < d
  top = (div-lt_iff_lt-mul (mul-pos a_pos b_pos)).1 (omega arith)

  digits : c / 1 % a + a * (c / a % b + b * (c / (a * b) % d)) ≡ c
  digits = rw (div-one, mod-eq_of_lt top, ← div-div-eq-div-mul c a b) (omega (arith, ap (λ x. a * x) (div-add-mod (c / a) b), div-add-mod c a))

-- c's coordinates are those of a cell
pub record Inside (s : Sides) (c : ℕ) : Type 0 where
  pub in_x : along (x_axis s) c < s.nx
  pub in_y : along (y_axis s) c < s.ny
  pub in_z : along (z_axis s) c < s.nz

pub coordinates_in : (s : Sides) (c : ℕ) → c < cells s → Inside s c
unfolding along cells
coordinates_in s c l = record {
  in_x = mod-lt (c / 1) (a_pos s.nx s.ny s.nz c l);
  in_y = mod-lt (c / s.nx) (b_pos s.nx s.ny s.nz c l);
  in_z = mod-lt (c / (s.nx * s.ny)) (some_right (c / s.nx) s.ny s.nz (above s.nx s.ny s.nz c l));
}

pub coordinates_number : (s : Sides) (c : ℕ) → c < cells s → number s (along (x_axis s) c) (along (y_axis s) c) (along (z_axis s) c) ≡ c
unfolding number along cells
coordinates_number s c l = digits s.nx s.ny s.nz c l
