-- Sides within 1 to 32, level by level, and how many cells there are: the next level has at most half the cells, and
-- one more. Assumes nothing.
use mathlib.Core.Path.{◌≡◌}
use mathlib.Core.Bool.{true}
use Prim.Native.Nat.{ℕ, zero, suc, ◌+◌, ◌*◌, ◌/◌, ◌≤◌}
use native.Mathlib.Nat.{mul-le-mul, mul-pos}
use native.Mathlib.Omega.{arith}
use Rattle.method.specs.declared.Sides.{Sides}
use Rattle.method.specs.Cast.{cells, sides_fit}
use Rattle.method.specs.Levels.{half, halved}
use Rattle.theory.specs.Levels.{sides_at, cells_before}
use Rattle.theory.specs.Sides.{Fit}
use Rattle.theory.proofs.Sides.{fit, fits}

pub halved_fit : (s : Sides) → Fit s → Fit (halved s)
unfolding halved half
halved_fit s z = omega arith

pub fit_at : (s : Sides) → Fit s → (l : ℕ) → Fit (sides_at s l)
unfolding sides_at
fit_at s z zero = z
fit_at s z (suc l) = halved_fit (sides_at s l) (fit_at s z l)

pub sides_kept : (s : Sides) → sides_fit s ≡ true → (l : ℕ) → sides_fit (sides_at s l) ≡ true
sides_kept s e l = fits (sides_at s l) (fit_at s (fit s e) l)

-- ---- (a - 1) * (y - 1) is not negative
cross : (a y : ℕ) → 1 ≤ a → 1 ≤ y → a + y ≤ a * y + 1
cross (suc a) (suc y) p q = omega arith
cross zero y p q = elim p [ ]
cross (suc a) zero p q = elim q [ ]

-- a side more: from 2 x ≤ y + 1 to the same of h x and a y, where h is half of a, rounded up
side : (a h x y : ℕ) → 1 ≤ a → 1 ≤ y → h * 2 ≤ a + 1 → x * 2 ≤ y + 1 → h * x * 2 ≤ a * y + 1
side a h x y p q f g =
    let k : (h * 2) * (x * 2) ≤ (a + 1) * (y + 1) = mul-le-mul f g in
    omega (arith, cross a y p q)

pub cells_halved : (s : Sides) → Fit s → 2 * cells (halved s) ≤ cells s + 1
unfolding cells halved half
cells_halved s z = omega (
  arith,
  side s.nx ((s.nx + 1) / 2) ((s.ny + 1) / 2 * ((s.nz + 1) / 2)) (s.ny * s.nz) z.nx_one (mul-pos z.ny_one z.nz_one) (omega arith)
      (side s.ny ((s.ny + 1) / 2) ((s.nz + 1) / 2) s.nz z.ny_one z.nz_one (omega arith) (omega arith)),
)

pub cells_least : (s : Sides) → Fit s → 1 ≤ cells s
unfolding cells
cells_least s z = mul-pos z.nx_one (mul-pos z.ny_one z.nz_one)

cells_running : (s : Sides) → Fit s → (l : ℕ) → cells_before s l + 2 * cells (sides_at s l) ≤ 2 * cells s + l
unfolding cells_before sides_at
cells_running s z zero = omega arith
cells_running s z (suc l) = omega (arith, cells_running s z l, cells_halved (sides_at s l) (fit_at s z l))

-- six levels have together at most twice the cells of the first, and five more
pub cells_of_six : (s : Sides) → sides_fit s ≡ true → (l : ℕ) → l ≤ 6 → cells_before s l ≤ 2 * cells s + 5
cells_of_six s e l h = let z : Fit s = fit s e in omega (arith, cells_running s z l, cells_least (sides_at s l) (fit_at s z l))
