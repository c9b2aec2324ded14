-- Where the residual is worst: what is asked and what is answered.
use Rattle.std.specs.Prelude.{ℕ, ◌≤◌, ◌≡◌, List, ℤ, Float}
use Rattle.method.specs.declared.Sides.{Sides}
use Rattle.method.specs.Cast.{Cast, worst, worst_cell, worst_value}
use Rattle.acceptance.specs.Trial.{Asked}
use Rattle.acceptance.specs.Cells.{rounded_on}
use Rattle.answers.specs.declared.Worst.{Worst}

abbrev pub cast_of : Sides → List ℕ → List ℤ → Cast
cast_of g ls vs = record { sides = g; labels = ls; values = vs }

-- an x that was tested, and the worst that the test found, within every tolerance
pub record Sought (g : Sides) (ls : List ℕ) (vs : List ℤ) (x : List Float) (most : ℕ) : Type 0 where
  pub asked : Asked g ls vs x
  pub is : most ≡ worst (cast_of g ls vs) (rounded_on g ls vs x)
  pub small : most ≤ 1000000

-- wish 5's two fields
abbrev pub worst_of : Cast → List ℤ → Worst
worst_of k ps = record { cell = worst_cell k ps; left = worst_value k ps }
