-- The fields of a solve in one room: x, p, z, r, and t, which is scratch.
use Rattle.std.specs.Prelude.{ℕ, ◌*◌, ◌≤◌, ◌≡◌, List, length, take, drop, Float}
use Rattle.method.specs.declared.Sides.{Sides}
use Rattle.method.specs.Cast.{cells}
use Rattle.theory.specs.Sides.{Fit}

abbrev pub x_of : ℕ → List Float → List Float
x_of n r = take n r

abbrev pub p_of : ℕ → List Float → List Float
p_of n r = take n (drop n r)

abbrev pub z_of : ℕ → List Float → List Float
z_of n r = take n (drop (2 * n) r)

abbrev pub r_of : ℕ → List Float → List Float
r_of n r = take n (drop (3 * n) r)

abbrev pub t_of : ℕ → List Float → List Float
t_of n r = take n (drop (4 * n) r)

-- what every kernel asks: sides of 1 to 32, a label for each cell, room for the five fields
pub record Held (g : Sides) (ls : List ℕ) (room : List Float) : Type 0 where
  pub sides : Fit g
  pub labelled : length ls ≡ cells g
  pub roomy : 5 * cells g ≤ length room
