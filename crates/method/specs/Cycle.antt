-- Document 01, "The cycle in binary64". Each operation rounds once. Definitions only.
use Rattle.std.specs.Prelude.{ℕ, zero, suc, ◌+◌, ◌^◌, Bool, cond, not, ◌&&◌, ◌||◌, List, set, Float, leb}
use Rattle.laws.specs.Loops.{up, down}
use Rattle.laws.specs.Lists.{tab, over, any}
use Rattle.laws.specs.Binary64.{◌⊕◌, ◌⊖◌, ◌⊗◌, ◌⊘◌, +0, ofℕ}
use Rattle.method.specs.declared.Sides.{Sides}
use Rattle.method.specs.Cast.{cells, is_air, around, degree}
use Rattle.method.specs.Levels.{halved, children, coarse}
use Rattle.method.specs.Transfers.{given_to, value, in_air, restricted, prolongated}

-- ---- "Here openings count as zero: A u = d·u minus the sum of air neighbours."
unfoldable pub air_sum : Sides → List ℕ → List Float → ℕ → Float
air_sum s ls u c = over (is_air ls) (λ j a. a ⊕ value u j) (around s c) +0

unfoldable pub applied : Sides → List ℕ → List Float → ℕ → Float
applied s ls u c = ofℕ (degree s ls c) ⊗ value u c ⊖ air_sum s ls u c

-- b - A u, and the same over d
unfoldable pub rest : Sides → List ℕ → List Float → List Float → ℕ → Float
rest s ls b u c = value b c ⊖ applied s ls u c

unfoldable pub change : Sides → List ℕ → List Float → List Float → ℕ → Float
change s ls b u c = rest s ls b u c ⊘ ofℕ (degree s ls c)

-- "Jacobi: all changes from the old u, then u + (2/3)·((b - A u)/d), with 2/3 the rounded quotient."
unfoldable pub jacobi : Sides → List ℕ → List Float → List Float → List Float
jacobi s ls b u = in_air s ls (λ c. value u c ⊕ (ofℕ 2 ⊘ ofℕ 3) ⊗ change s ls b u c)

-- "Gauss-Seidel: u becomes u + (b - A u)/d, one cell after another", at the cells that pass the test
unfoldable pub relaxed : Sides → List ℕ → (ℕ → Bool) → List Float → ℕ → List Float → List Float
relaxed s ls at b c u = cond (at c) (set u c (value u c ⊕ change s ls b u c)) u

unfoldable pub ascending : Sides → List ℕ → (ℕ → Bool) → List Float → List Float → List Float
ascending s ls at b u = up (relaxed s ls at b) (cells s) u

unfoldable pub descending : Sides → List ℕ → (ℕ → Bool) → List Float → List Float → List Float
descending s ls at b u = down (relaxed s ls at b) (cells s) u

-- ---- "Band: an air cell for which any of the up to 8 coarse cells that prolongate to it has a child that isn't air.
-- Coarse places outside the box count as having one."
unfoldable pub has_other : Sides → List ℕ → ℕ → Bool
has_other s ls c = leb (cells (halved s)) c || any (λ j. not (is_air ls j)) (children s c)

unfoldable pub in_band : Sides → List ℕ → ℕ → Bool
in_band s ls c = is_air ls c && any (λ d. has_other s ls d.cell) (given_to s c)

-- ---- the cycle
unfoldable pub zeros : Sides → List Float
zeros s = tab (cells s) (λ c. +0)

unfoldable pub residue : Sides → List ℕ → List Float → List Float → List Float
residue s ls b u = in_air s ls (rest s ls b u)

unfoldable pub corrected : Sides → List ℕ → List Float → List Float → List Float
corrected s ls u w = let e = prolongated s ls w in in_air s ls (λ c. value u c ⊕ value e c)

unfoldable pub times : ℕ → (List Float → List Float) → List Float → List Float
times k f u = up (λ i. f) k u

-- "Coarsest: from u = 0, 8 ascending and 8 descending Gauss-Seidel sweeps over all air cells."
unfoldable pub coarsest : Sides → List ℕ → List Float → List Float
coarsest s ls b = times 8 (descending s ls (is_air ls) b) (times 8 (ascending s ls (is_air ls) b) (zeros s))

unfoldable pub sweeps : ℕ → ℕ
sweeps l = 2 ^ (l + 1)

-- "Level l, not the coarsest, from u = 0: one Jacobi; 2^(l+1) ascending Gauss-Seidel sweeps of the band; residual,
-- restricted."
unfoldable pub downstroke : ℕ → Sides → List ℕ → List Float → List Float
downstroke l s ls b = times (sweeps l) (ascending s ls (in_band s ls) b) (jacobi s ls b (zeros s))

-- "its result is prolongated and added; then 2^(l+1) descending band sweeps; one Jacobi"
unfoldable pub upstroke : ℕ → Sides → List ℕ → List Float → List Float → List Float → List Float
upstroke l s ls b u w = jacobi s ls b (times (sweeps l) (descending s ls (in_band s ls) b) (corrected s ls u w))

-- "Each downstroke ends in the next coarser level's cycle"; below is the number of levels below level l.
unfoldable pub cycle : ℕ → ℕ → Sides → List ℕ → List Float → List Float
cycle l zero s ls b = coarsest s ls b
cycle l (suc below) s ls b =
    let u = downstroke l s ls b in
    upstroke l s ls b u (cycle (suc l) below (halved s) (coarse s ls) (restricted s ls (residue s ls b u)))

-- one name that opens this file
unfoldable pub computing_cycle : Unit {0}
unfolding air_sum applied rest change jacobi relaxed ascending descending has_other in_band zeros residue corrected times coarsest sweeps downstroke upstroke cycle
computing_cycle = tt
