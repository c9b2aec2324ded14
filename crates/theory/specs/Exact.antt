-- What question 3 speaks of: a field that solves m times the equations exactly, and the bound.
use Rattle.std.specs.Prelude.{ℕ, ◌*◌, ◌≤◌, ◌≡◌, ℤ, pos, nat_abs}
use Rattle.laws.specs.Whole.{◌-ᶻ◌, ◌*ᶻ◌}
use Rattle.method.specs.Cast.{Cast, label_at, field, residual}
use Rattle.method.specs.Solving.{Asked, solved_cast, solving}

-- y equals m·level at every opening, and at every air cell m·source + (the sum of y over the non-wall neighbours) - d·y
-- is 0
pub record Solves (k : Cast) (m : ℕ) (y : ℕ → ℤ) : Type 0 where
  pub at_openings : (c : ℕ) → label_at k.labels c ≡ 1 → y c ≡ pos m *ᶻ field k.values c
  pub at_air : (c : ℕ) → label_at k.labels c ≡ 0 → residual k.sides k.labels (λ i. pos m *ᶻ field k.values i) y c ≡ pos 0

-- m · worst · interior · depth
unfoldable pub bound : ℕ → ℕ → ℕ → ℕ → ℕ
bound m worst interior depth = m * worst * interior * depth

-- QUESTION 3 with a bound f: for any accepted answer, any whole m ≥ 1 and any such y, at each air cell |m·pressure − y|
-- is at most f of m and of the answer's worst, interior and depth
abbrev pub Bounds : (ℕ → ℕ → ℕ → ℕ → ℕ) → Type 0
Bounds f =
    (a : Asked) → (solving a).answer.number ≡ 0 → (m : ℕ) → 1 ≤ m → (y : ℕ → ℤ) → Solves (solved_cast a) m y → (c : ℕ) → label_at (solved_cast a).labels c ≡ 0
    → nat_abs (pos m *ᶻ field (solving a).pressures c -ᶻ y c) ≤ f m (solving a).answer.worst (solving a).answer.interior (solving a).answer.depth
