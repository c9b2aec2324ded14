-- Document 01's test of a round: what it asks and what it answers.
use Rattle.std.specs.Prelude.{ℕ, cond, ◌≡◌, List, ℤ, Float, length, Option, Some, None}
use Rattle.method.specs.declared.Sides.{Sides}
use Rattle.method.specs.declared.Settings.{Settings}
use Rattle.method.specs.Cast.{Cast, cells, worst}
use Rattle.method.specs.Ticks.{rounded, passes}
use Rattle.theory.specs.Sides.{Fit}

-- sides that fit, with a label, a value and an x for each cell
pub record Asked (g : Sides) (ls : List ℕ) (vs : List ℤ) (x : List Float) : Type 0 where
  pub sides : Fit g
  pub labelled : length ls ≡ cells g
  pub valued : length vs ≡ cells g
  pub long : length x ≡ cells g

-- the worst residual of the rounded ticks where they pass
unfoldable pub tested : Cast → Settings → List Float → Option ℕ
tested k t x = cond (passes k t x) (Some (worst k (rounded k x))) None
