-- b at a cell: its source and the levels of the openings across its faces, as a whole number.
use Rattle.std.specs.Prelude.{ℕ, ◌+◌, ◌^◌, ◌≤◌, ◌≡◌, cond, List, ℤ, nat_abs}
use Rattle.laws.specs.Lists.{over}
use Rattle.laws.specs.Whole.{◌+ᶻ◌}
use Rattle.method.specs.declared.Sides.{Sides}
use Rattle.method.specs.Cast.{is_opening, around, field, level}

-- ---- with cell j's level, where it is an opening
unfoldable pub level_step : List ℕ → List ℤ → ℕ → ℤ → ℤ
level_step ls vs j b = cond (is_opening ls j) (b +ᶻ level ls vs j) b

pub record Levelled (ls : List ℕ) (vs : List ℤ) (j : ℕ) (b r : ℤ) : Type 0 where
  pub is : r ≡ level_step ls vs j b
  pub small : nat_abs r ≤ nat_abs b + 2 ^ 31

-- ---- as in `method`'s `right_side`, before it is converted
unfoldable pub whole_side : Sides → List ℕ → List ℤ → ℕ → ℤ
whole_side g ls vs c = over (is_opening ls) (λ j b. b +ᶻ level ls vs j) (around g c) (field vs c)

pub record WholeSide (g : Sides) (ls : List ℕ) (vs : List ℤ) (c : ℕ) (r : ℤ) : Type 0 where
  pub is : r ≡ whole_side g ls vs c
  pub small : nat_abs r ≤ 2 ^ 40
