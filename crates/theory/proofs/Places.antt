-- Cells by their coordinates, and which cells are face neighbours. Assumes nothing.
use mathlib.Core.Path.{◌≡◌, refl, sym, ap, ap₂, subst, subst₃, ◌∙◌}
use mathlib.Core.Logic.{◌⊎◌, inl, inr, ⊎_elim}
use mathlib.Core.Bool.{Bool, true, false, cond}
use mathlib.Core.List.Memᴰ
use Prim.Native.Nat.{ℕ, ◌+◌, ◌-◌, ◌*◌, ◌<◌}
use native.Mathlib.Omega.{arith}
use lib.Dec.{ltb}
use borrow.Author.Tests.{ltb-true, lt-ltb}
use Rattle.method.specs.declared.Sides.{Sides}
use Rattle.method.specs.Cast.{Axis, axes, number, along, cells, back, on, beside, around}
use Rattle.theory.specs.Walks.{Beside}
use Rattle.theory.specs.Sides.{x_axis, y_axis, z_axis}
use Rattle.theory.proofs.Numbers.{number_in, Coordinates, number_coordinates, coordinates_in, coordinates_number}

-- cell c is the one with the coordinates x, y, z
pub record Spot (s : Sides) (c x y z : ℕ) : Type 0 where
  pub x_in : x < s.nx
  pub y_in : y < s.ny
  pub z_in : z < s.nz
  pub is : c ≡ x + s.nx * (y + s.ny * z)

pub spot_same : {s : Sides} {c x y z x' y' z' : ℕ} → Spot s c x y z → x ≡ x' → y ≡ y' → z ≡ z' → Spot s c x' y' z'
spot_same {s} {c} p e f g = subst₃ (Spot s c) e f g p

-- every cell has coordinates
pub spot_of : (s : Sides) (c : ℕ) → c < cells s → Spot s c (along (x_axis s) c) (along (y_axis s) c) (along (z_axis s) c)
unfolding number
spot_of s c h = let p = coordinates_in s c h in record { x_in = p.in_x; y_in = p.in_y; z_in = p.in_z; is = sym (coordinates_number s c h) }

-- ---- what a cell's coordinates say
module _ (s : Sides) (c x y z : ℕ) (p : Spot s c x y z) where
  pub spot_lt : c < cells s
  unfolding number
  spot_lt = rw p.is (number_in s x y z p.x_in p.y_in p.z_in)

  at : Coordinates s c x y z
  unfolding number
  at = subst (λ d. Coordinates s d x y z) (sym p.is) (number_coordinates s x y z p.x_in p.y_in p.z_in)

  pub x_along : along (x_axis s) c ≡ x
  x_along = at.at_x

  pub y_along : along (y_axis s) c ≡ y
  y_along = at.at_y

  pub z_along : along (z_axis s) c ≡ z
  z_along = at.at_z

-- ---- one step along an axis, and one step along one of three
abbrev pub Step : ℕ → ℕ → Type 0
Step a b = (b ≡ a + 1) ⊎ (a ≡ b + 1)

abbrev pub Face : ℕ → ℕ → ℕ → ℕ → ℕ → ℕ → Type 0
Face x y z x' y' z' = (Step x x' × (y ≡ y') × (z ≡ z')) ⊎ (((x ≡ x') × Step y y' × (z ≡ z')) ⊎ ((x ≡ x') × (y ≡ y') × Step z z'))

if_lt : (a b m n : ℕ) → a < b → cond (ltb a b) m n ≡ m
if_lt a b m n h = ap (λ t. cond t m n) (lt-ltb a b h)

lt_if : (a b m n : ℕ) → cond (ltb a b) m n < n → a < b
lt_if a b m n h = go (ltb a b) refl h
  where
    go : (t : Bool) → ltb a b ≡ t → cond t m n < n → a < b
    go true e h = ltb-true a b e
    go false e h = absurd (omega arith)

module _ (n : ℕ) (a : Axis) (c x : ℕ) (at : along a c ≡ x) where
  back_in : (x' : ℕ) → x ≡ x' + 1 → back n a c ≡ c - a.stride
  unfolding back
  back_in x' e = if_lt 0 (along a c) (c - a.stride) n (omega arith)

  back_out : (j : ℕ) → j ≡ back n a c → j < n → (x' : ℕ) × (x ≡ x' + 1) × (j ≡ c - a.stride)
  unfolding back
  back_out j e h =
      let k : 0 < along a c = lt_if 0 (along a c) (c - a.stride) n (omega arith) in
      (x - 1, omega arith, e ∙ if_lt 0 (along a c) (c - a.stride) n k)

  on_in : x + 1 < a.side → on n a c ≡ c + a.stride
  unfolding on
  on_in h = if_lt (along a c + 1) a.side (c + a.stride) n (omega arith)

  on_out : (j : ℕ) → j ≡ on n a c → j < n → (x + 1 < a.side) × (j ≡ c + a.stride)
  unfolding on
  on_out j e h =
      let k : along a c + 1 < a.side = lt_if (along a c + 1) a.side (c + a.stride) n (omega arith) in
      (omega arith, e ∙ if_lt (along a c + 1) a.side (c + a.stride) n k)

-- a face neighbour that is a cell is one step away along one axis
abbrev pub Near : Sides → ℕ → ℕ → ℕ → ℕ → Type 0
Near s j x y z = (x' : ℕ) × (y' : ℕ) × (z' : ℕ) × Spot s j x' y' z' × Face x y z x' y' z'

module _ (s : Sides) (c x y z : ℕ) (p : Spot s c x y z) (j : ℕ) where
  x_back : j < cells s → j ≡ back (cells s) (x_axis s) c → Near s j x y z
  x_back h e = let q = back_out (cells s) (x_axis s) c x (x_along s c x y z p) j e h in (q.0, y, z, omega arith, inl (inr q.1, refl, refl))

  x_on : j < cells s → j ≡ on (cells s) (x_axis s) c → Near s j x y z
  x_on h e = let q = on_out (cells s) (x_axis s) c x (x_along s c x y z p) j e h in (x + 1, y, z, omega arith, inl (inl refl, refl, refl))

  y_back : j < cells s → j ≡ back (cells s) (y_axis s) c → Near s j x y z
  y_back h e = let q = back_out (cells s) (y_axis s) c y (y_along s c x y z p) j e h in
      let g : x + s.nx * (y + s.ny * z) ≡ x + s.nx * (q.0 + 1 + s.ny * z) = ap (λ k. x + s.nx * (k + s.ny * z)) q.1 in
      (x, q.0, z, omega arith, inr (inl (refl, inr q.1, refl)))

  y_on : j < cells s → j ≡ on (cells s) (y_axis s) c → Near s j x y z
  y_on h e = let q = on_out (cells s) (y_axis s) c y (y_along s c x y z p) j e h in (x, y + 1, z, omega arith, inr (inl (refl, inl refl, refl)))

  z_back : j < cells s → j ≡ back (cells s) (z_axis s) c → Near s j x y z
  z_back h e = let q = back_out (cells s) (z_axis s) c z (z_along s c x y z p) j e h in
      let g : x + s.nx * (y + s.ny * z) ≡ x + s.nx * (y + s.ny * (q.0 + 1)) = ap (λ k. x + s.nx * (y + s.ny * k)) q.1 in
      (x, y, q.0, omega arith, inr (inr (refl, refl, inr q.1)))

  z_on : j < cells s → j ≡ on (cells s) (z_axis s) c → Near s j x y z
  z_on h e = let q = on_out (cells s) (z_axis s) c z (z_along s c x y z p) j e h in (x, y, z + 1, omega arith, inr (inr (refl, refl, inl refl)))

  pub beside_near : j < cells s → Beside s c j → Near s j x y z
  unfolding around beside axes
  beside_near h m = ⊎_elim (x_back h) (λ m. ⊎_elim (x_on h) (λ m. ⊎_elim (y_back h) (λ m. ⊎_elim (y_on h) (λ m. ⊎_elim (z_back h) (λ m. z_on h (Memᴰ.eq_of_singleton m))
      (Memᴰ.cases_cons m)) (Memᴰ.cases_cons m)) (Memᴰ.cases_cons m)) (Memᴰ.cases_cons m)) (Memᴰ.cases_cons m)

  -- and a cell one step away along one axis is a face neighbour
  pub near_beside : (x' y' z' : ℕ) → Spot s j x' y' z' → Face x y z x' y' z' → Beside s c j
  unfolding around beside axes
  near_beside x' y' z' r (inl (inl e, f, g)) =
      let w : s.nx * (y + s.ny * z) ≡ s.nx * (y' + s.ny * z') = ap₂ (λ a b. s.nx * (a + s.ny * b)) f g in
      let k = on_in (cells s) (x_axis s) c x (x_along s c x y z p) (omega (arith, r.x_in)) in
      let q : j ≡ on (cells s) (x_axis s) c = omega arith in
      Memᴰ.tail (Memᴰ.head q)
  near_beside x' y' z' r (inl (inr e, f, g)) =
      let w : s.nx * (y + s.ny * z) ≡ s.nx * (y' + s.ny * z') = ap₂ (λ a b. s.nx * (a + s.ny * b)) f g in
      let k = back_in (cells s) (x_axis s) c x (x_along s c x y z p) x' e in
      let q : j ≡ back (cells s) (x_axis s) c = omega arith in
      Memᴰ.head q
  near_beside x' y' z' r (inr (inl (e, inl f, g))) =
      let w : s.nx * (y' + s.ny * z') ≡ s.nx * (y + 1 + s.ny * z) = ap₂ (λ a b. s.nx * (a + s.ny * b)) f (sym g) in
      let k = on_in (cells s) (y_axis s) c y (y_along s c x y z p) (omega (arith, r.y_in)) in
      let q : j ≡ on (cells s) (y_axis s) c = omega arith in
      Memᴰ.tail (Memᴰ.tail (Memᴰ.tail (Memᴰ.head q)))
  near_beside x' y' z' r (inr (inl (e, inr f, g))) =
      let w : s.nx * (y + s.ny * z) ≡ s.nx * (y' + 1 + s.ny * z') = ap₂ (λ a b. s.nx * (a + s.ny * b)) f g in
      let k = back_in (cells s) (y_axis s) c y (y_along s c x y z p) y' f in
      let q : j ≡ back (cells s) (y_axis s) c = omega arith in
      Memᴰ.tail (Memᴰ.tail (Memᴰ.head q))
  near_beside x' y' z' r (inr (inr (e, f, inl g))) =
      let w : s.nx * (y' + s.ny * z') ≡ s.nx * (y + s.ny * (z + 1)) = ap₂ (λ a b. s.nx * (a + s.ny * b)) (sym f) g in
      let k = on_in (cells s) (z_axis s) c z (z_along s c x y z p) (omega (arith, r.z_in)) in
      let q : j ≡ on (cells s) (z_axis s) c = omega arith in
      Memᴰ.tail (Memᴰ.tail (Memᴰ.tail (Memᴰ.tail (Memᴰ.tail (Memᴰ.head q)))))
  near_beside x' y' z' r (inr (inr (e, f, inr g))) =
      let w : s.nx * (y + s.ny * z) ≡ s.nx * (y' + s.ny * (z' + 1)) = ap₂ (λ a b. s.nx * (a + s.ny * b)) f g in
      let k = back_in (cells s) (z_axis s) c z (z_along s c x y z p) z' g in
      let q : j ≡ back (cells s) (z_axis s) c = omega arith in
      Memᴰ.tail (Memᴰ.tail (Memᴰ.tail (Memᴰ.tail (Memᴰ.head q))))
