-- What the functions of this crate ask. Assumes nothing.
use Prim.Native.Nat.{ℕ, ◌+◌, ◌-◌, ◌*◌, ◌/◌, ◌%◌, ◌<◌, ◌≤◌}
use mathlib.Core.Path.{◌≡◌, refl, sym, ap, ◌∙◌}
use native.Mathlib.Nat.{mul-le-mul, mod-eq_of_lt, div-one, div-div-eq-div-mul}
use native.Mathlib.Omega.{arith}
use Rattle.method.specs.declared.Sides.{Sides}
use Rattle.method.specs.Cast.{cells, along, number}
use Rattle.theory.specs.Sides.{z_axis}
use Rattle.theory.proofs.Numbers.{coordinates_in, top}
use Rattle.grid.specs.declared.place.Spot.{Spot}
use Rattle.grid.specs.Place.{SpotOf, place_at}
use borrow.Author.Rules.{rules}
use borrow.Author.Tests.{lt-ltb, le-leb}
use mir.Syntax.{w64}
use mir.Val.{Fits}

-- a product of numbers up to 32
pub small_two : (a b : ℕ) → a ≤ 32 → b ≤ 32 → a * b ≤ 1024
small_two a b h k = mul-le-mul h k

pub small_three : (a b c : ℕ) → a ≤ 32 → b ≤ 32 → c ≤ 32 → a * (b * c) ≤ 32768
small_three a b c h k l = mul-le-mul h (mul-le-mul k l)

-- the cell at coordinates that are counted from one and lie in the box
pub place_inside : (g : Sides) (a b e r : ℕ) → (0 < a) × (a ≤ g.nx) → (0 < b) × (b ≤ g.ny) → (0 < e) × (e ≤ g.nz) → r ≡ number g (a - 1) (b - 1) (e - 1)
    → r ≡ place_at g a b e
unfolding place_at
place_inside g a b e r h k l q =
    rw (lt-ltb 0 a h.0, le-leb a g.nx h.1, lt-ltb 0 b k.0, le-leb b g.ny k.1, lt-ltb 0 e l.0, le-leb e g.nz l.1) q

-- a cell's number from coordinates below 33
below_33 : {b z : ℕ} → b ≤ 32 → z < 33 → b * z ≤ 1024
below_33 h k = mul-le-mul h (le_pred k)
  where
    le_pred : {z : ℕ} → z < 33 → z ≤ 32
    le_pred g = omega arith

pub plane_fits : (b z : ℕ) → b ≤ 32 → z < 33 → Fits w64 (b * z)
plane_fits b z h k = record { fits = omega (arith, below_33 h k) }

pub row_fits : (y b z : ℕ) → y < 33 → b ≤ 32 → z < 33 → Fits w64 (y + b * z)
row_fits y b z l h k = record { fits = omega (arith, below_33 h k) }

rows : (a y b z : ℕ) → a ≤ 32 → y < 33 → b ≤ 32 → z < 33 → a * (y + b * z) ≤ 33824
rows a y b z g l h k = mul-le-mul g (grown (below_33 h k))
  where
    grown : b * z ≤ 1024 → y + b * z ≤ 1057
    grown e = omega arith

pub box_fits : (a y b z : ℕ) → a ≤ 32 → y < 33 → b ≤ 32 → z < 33 → Fits w64 (a * (y + b * z))
box_fits a y b z g l h k = record { fits = omega (arith, rows a y b z g l h k) }

pub number_fits : (x a y b z : ℕ) → x < 33 → a ≤ 32 → y < 33 → b ≤ 32 → z < 33 → Fits w64 (x + a * (y + b * z))
number_fits x a y b z f g l h k = record { fits = omega (arith, rows a y b z g l h k) }

pub ruleset numbers = (rules, plane_fits, row_fits, box_fits, number_fits)

-- the three coordinates
pub spotted : (g : Sides) (c : ℕ) → c < cells g → SpotOf g c (record { x = c % g.nx; y = c / g.nx % g.ny; z = c / g.nx / g.ny })
unfolding along cells
spotted g c l =
    let p = coordinates_in g c l in
    let z_is : c / g.nx / g.ny ≡ along (z_axis g) c = sym (mod-eq_of_lt (top g.nx g.ny g.nz c l) ∙ sym (div-div-eq-div-mul c g.nx g.ny)) in
    record {
      is_x = ap (λ k. k % g.nx) (sym (div-one c));
      is_y = refl;
      is_z = z_is;
      in_x = rw (← div-one c) p.in_x;
      in_y = p.in_y;
      in_z = rw z_is p.in_z;
    }

-- a cell has one spot
pub spot_one : (g : Sides) (c : ℕ) (r q : Spot) → SpotOf g c r → SpotOf g c q → r ≡ q
spot_one g c r q h k =
    ap (λ x. record { x = x; y = r.y; z = r.z }) (h.is_x ∙ sym k.is_x)
    ∙ ap (λ y. record { x = q.x; y = y; z = r.z }) (h.is_y ∙ sym k.is_y)
    ∙ ap (λ z. record { x = q.x; y = q.y; z = z }) (h.is_z ∙ sym k.is_z)
