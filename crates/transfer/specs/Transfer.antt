-- What the two transfers ask of their room and promise of it, and the weights.
use Rattle.std.specs.Prelude.{ℕ, ◌+◌, ◌*◌, ◌≡◌, List, ◌++◌, length, take, drop, Float}
use Rattle.laws.specs.Lists.{tab}
use Rattle.method.specs.declared.Sides.{Sides}
use Rattle.method.specs.Cast.{cells}
use Rattle.method.specs.Levels.{halved, coarse}
use Rattle.method.specs.Transfers.{axis_weight, given_to, weighted, restricted}
use Rattle.method.specs.Cycle.{corrected}
use Rattle.theory.specs.Sides.{Fit}

-- a level and the next: their sides, and their labels
pub record TwoLevels (g h : Sides) (ls lc : List ℕ) : Type 0 where
  pub fits : Fit g
  pub next : h ≡ halved g
  pub all : length ls ≡ cells g
  pub labels : lc ≡ coarse g ls

-- the weight of the i-th, j-th and k-th of the four along the three axes
unfoldable pub weight_of : ℕ → ℕ → ℕ → ℕ
weight_of i j k = axis_weight i * (axis_weight j * axis_weight k)

-- what a restriction promises. The room: the fine u, b and t, the coarse u, b and t, and more.
abbrev pub restricted_room : Sides → Sides → List ℕ → List Float → List Float
restricted_room g h ls e =
    take (3 * cells g + cells h) e ++ restricted g ls (take (cells g) (drop (2 * cells g) e)) ++ drop (3 * cells g + 2 * cells h) e

-- the sums that a prolongation divides, of every fine cell
unfoldable pub summed : Sides → List ℕ → List Float → List Float
summed g ls w = tab (cells g) (λ c. weighted (coarse g ls) w (given_to g c))

-- what a correction promises, of the same room: u, and t, where the sums stood
abbrev pub corrected_room : Sides → Sides → List ℕ → List Float → List Float
corrected_room g h ls e =
    let w = take (cells h) (drop (3 * cells g) e) in
    corrected g ls (take (cells g) e) w ++ (take (cells g) (drop (cells g) e) ++ (summed g ls w ++ drop (3 * cells g) e))
