-- The bound is reached, and none of its factors can be left out: two calls, computed. Assumes nothing.
use Prim.Native.Nat.{ℕ, zero, suc, ◌*◌, ◌≤◌}
use mathlib.Core.Path.{◌≡◌, refl}
use mathlib.Core.List.{List, [], ◌∷◌}
use native.Mathlib.Omega.{arith}
use lib.ListN.{replicate}
use lib.IntN.{ℤ, pos, nat_abs}
use Rattle.laws.specs.Whole.{◌-ᶻ◌, ◌*ᶻ◌}
use Rattle.laws.specs.Binary64.{+0}
use Rattle.method.specs.Cast.{label_at, field, residual}
use Rattle.method.specs.Solving.{Asked, solving}
use Rattle.method.specs.Computing.{computing}
use Rattle.theory.specs.Exact.{Solves, bound, Bounds}

-- a line of n cells, one level, limit 0
abbrev line : ℕ → List ℕ → List ℤ → ℕ → ℕ → ℕ → ℕ → Asked
line n ls vs tolerance b f w = record {
  cast = record { sides = record { nx = n; ny = 1; nz = 1 }; labels = ls; values = vs };
  settings = record { tolerance = tolerance; levels = 1; rounds = 0 };
  pressures = replicate n (pos 0);
  bytes = replicate b 0;
  floats = replicate f +0;
  words = replicate w 0;
}

-- ---- (i) labels 1 0, values 0 1, tolerance 1; m = 2 and y = 2 at the air cell
abbrev pub one : Asked
one = line 2 (1 ∷ 0 ∷ []) (pos 0 ∷ pos 1 ∷ []) 1 20 80 4

pub y_one : ℕ → ℤ
y_one zero = pos 0
y_one (suc zero) = pos 2
y_one (suc (suc c)) = pos 0

pub one_solved : Solves one.cast 2 y_one
unfolding computing y_one
one_solved = record { at_openings = openings; at_air = air }
  where
    openings : (c : ℕ) → label_at (1 ∷ 0 ∷ []) c ≡ 1 → y_one c ≡ pos 2 *ᶻ field (pos 0 ∷ pos 1 ∷ []) c
    openings zero e = refl
    openings (suc zero) e = absurd (omega arith)
    openings (suc (suc c)) e = absurd (omega arith)

    air : (c : ℕ) → label_at (1 ∷ 0 ∷ []) c ≡ 0 → residual one.cast.sides (1 ∷ 0 ∷ []) (λ i. pos 2 *ᶻ field (pos 0 ∷ pos 1 ∷ []) i) y_one c ≡ pos 0
    air zero e = absurd (omega arith)
    air (suc zero) e = refl
    air (suc (suc c)) e = absurd (omega arith)

-- equality
pub reached : nat_abs (pos 2 *ᶻ field (solving one).pressures 1 -ᶻ y_one 1) ≡ bound 2 (solving one).answer.worst (solving one).answer.interior (solving one).answer.depth
unfolding computing y_one bound
reached = refl

-- ---- (ii) labels 1 0 0, values 0 3 3, tolerance 3 (worst 3, interior 2, depth 2); m = 2 and y = 12, 18
abbrev pub two : Asked
two = line 3 (1 ∷ 0 ∷ 0 ∷ []) (pos 0 ∷ pos 3 ∷ pos 3 ∷ []) 3 22 88 6

pub y_two : ℕ → ℤ
y_two zero = pos 0
y_two (suc zero) = pos 12
y_two (suc (suc zero)) = pos 18
y_two (suc (suc (suc c))) = pos 0

pub two_solved : Solves two.cast 2 y_two
unfolding computing y_two
two_solved = record { at_openings = openings; at_air = air }
  where
    openings : (c : ℕ) → label_at (1 ∷ 0 ∷ 0 ∷ []) c ≡ 1 → y_two c ≡ pos 2 *ᶻ field (pos 0 ∷ pos 3 ∷ pos 3 ∷ []) c
    openings zero e = refl
    openings (suc zero) e = absurd (omega arith)
    openings (suc (suc zero)) e = absurd (omega arith)
    openings (suc (suc (suc c))) e = absurd (omega arith)

    air : (c : ℕ) → label_at (1 ∷ 0 ∷ 0 ∷ []) c ≡ 0 → residual two.cast.sides (1 ∷ 0 ∷ 0 ∷ []) (λ i. pos 2 *ᶻ field (pos 0 ∷ pos 3 ∷ pos 3 ∷ []) i) y_two c ≡ pos 0
    air zero e = absurd (omega arith)
    air (suc zero) e = refl
    air (suc (suc zero)) e = refl
    air (suc (suc (suc c))) e = absurd (omega arith)

-- the error at the far cell, and the bound: 18 ≤ 24
pub two_error : nat_abs (pos 2 *ᶻ field (solving two).pressures 2 -ᶻ y_two 2) ≡ 18
unfolding computing y_two
two_error = refl

pub two_bound : bound 2 (solving two).answer.worst (solving two).answer.interior (solving two).answer.depth ≡ 24
unfolding computing bound
two_bound = refl

-- without a factor the statement is false
pub without_m : Bounds (λ m worst interior depth. worst * interior * depth) → ⊥
unfolding computing y_two
without_m h = let e : 18 ≤ 12 = h two refl 2 (omega arith) y_two two_solved 2 refl in omega arith

pub without_worst_lem : Bounds (λ m worst interior depth. m * interior * depth) → ⊥
unfolding computing y_two
without_worst_lem h = let e : 18 ≤ 8 = h two refl 2 (omega arith) y_two two_solved 2 refl in omega arith

pub without_interior : Bounds (λ m worst interior depth. m * worst * depth) → ⊥
unfolding computing y_two
without_interior h = let e : 18 ≤ 12 = h two refl 2 (omega arith) y_two two_solved 2 refl in omega arith

pub without_depth : Bounds (λ m worst interior depth. m * worst * interior) → ⊥
unfolding computing y_two
without_depth h = let e : 18 ≤ 12 = h two refl 2 (omega arith) y_two two_solved 2 refl in omega arith
