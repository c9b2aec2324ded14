-- The three fields of a level in one room: u, b, and t, which is scratch.
use Rattle.std.specs.Prelude.{ℕ, ◌*◌, ◌≤◌, ◌≡◌, List, ◌++◌, length, take, drop, Float}
use Rattle.method.specs.declared.Sides.{Sides}
use Rattle.method.specs.Cast.{cells, is_air}
use Rattle.method.specs.Cycle.{relaxed}
use Rattle.theory.specs.Sides.{Fit}

abbrev pub u_of : ℕ → List Float → List Float
u_of n r = take n r

abbrev pub b_of : ℕ → List Float → List Float
b_of n r = take n (drop n r)

abbrev pub t_of : ℕ → List Float → List Float
t_of n r = take n (drop (2 * n) r)

-- what every kernel asks: sides of 1 to 32, a label for each cell, room for the three fields
pub record Level (g : Sides) (ls : List ℕ) (r : List Float) : Type 0 where
  pub sides : Fit g
  pub labelled : length ls ≡ cells g
  pub roomy : 3 * cells g ≤ length r

-- a room that holds the three fields, n elements each, and what follows
pub record Laid (n : ℕ) (u b t r : List Float) (room : List Float) : Type 0 where
  pub is : room ≡ u ++ (b ++ (t ++ r))
  pub u_length : length u ≡ n
  pub b_length : length b ≡ n
  pub t_length : length t ≡ n

-- ---- what the kernels do to the room at one cell
-- Gauss-Seidel
abbrev pub relax_turn : Sides → List ℕ → ℕ → List Float → List Float
relax_turn g ls c r = relaxed g ls (is_air ls) (b_of (cells g) r) c (u_of (cells g) r) ++ drop (cells g) r
