-- Transfers by rows: what a source row adds to the sums of a target row, and what these are after all source rows,
-- whatever the labels.
use Rattle.std.specs.Prelude.{ℕ, ◌+◌, ◌-◌, ◌*◌, ◌/◌, ◌%◌, ◌≤◌, ◌<◌, ◌≡◌, ◌&&◌, cond, List, ◌++◌, ltb, leb, eqb, length, get_or, take, drop, set, Float}
use Rattle.laws.specs.Loops.{up}
use Rattle.laws.specs.Lists.{tab}
use Rattle.laws.specs.Binary64.{◌⊕◌, ◌⊗◌, ◌⊘◌, +0, ofℕ}
use Rattle.method.specs.declared.Sides.{Sides}
use Rattle.method.specs.Cast.{cells, along}
use Rattle.method.specs.Levels.{halved}
use Rattle.method.specs.Transfers.{value, restriction_over, prolongation_over}
use Rattle.theory.specs.Sides.{Fit, x_axis, y_axis, z_axis}
use Rattle.grid.specs.Place.{in_box, place_at}
use Rattle.transfer.specs.Transfer.{weight_of}

-- s is e but for the m places from o on, which hold f
pub record Stretch (f : ℕ → Float) (o m : ℕ) (e s : List Float) : Type 0 where
  pub is : s ≡ take o e ++ tab m f ++ drop (o + m) e

-- ---- a source row and a target row
-- the sum a with the row's cell p, counted from one, under the weight w; outside the row there is none
unfoldable pub row_term : List Float → ℕ → Float → Float → Float
row_term row p w a = cond (ltb 0 p && leb p (length row)) (a ⊕ w ⊗ value row (p - 1)) a

-- the sum a of coarse cell i with its four cells of a fine row, under the weights w, v, v, w
unfoldable pub four : List Float → Float → Float → ℕ → Float → Float
four row w v i a = row_term row (2 * i + 3) w (row_term row (2 * i + 2) v (row_term row (2 * i + 1) v (row_term row (2 * i) w a)))

-- the sum a of fine cell i with its two cells of a coarse row, the nearer under v
unfoldable pub two : List Float → Float → Float → ℕ → Float → Float
two row w v i a = row_term row ((i + 1) / 2 + 1) (cond (eqb (i % 2) 0) v w) (row_term row ((i + 1) / 2) (cond (eqb (i % 2) 0) w v) a)

-- either of these
abbrev pub Share : Type 0
Share = List Float → Float → Float → ℕ → Float → Float

-- the room with cell i of the row at o, from the source row of n cells at f
abbrev pub row_step : Share → ℕ → ℕ → ℕ → Float → Float → ℕ → List Float → List Float
row_step share f n o w v i e = set e (o + i) (share (take n (drop f e)) w v i (value e (o + i)))

-- a source row of n cells at f, a target row of m cells at o
pub record Rows (f n o m : ℕ) (e : List Float) : Type 0 where
  pub source : f + n ≤ length e
  pub target : o + m ≤ length e
  pub some : 1 ≤ n
  pub short : n ≤ 32
  pub narrow : m ≤ 32

-- m is half of n, rounded up
pub record Halves (n m : ℕ) : Type 0 where
  pub enough : n ≤ 2 * m
  pub few : 2 * m ≤ n + 1

-- fine cells 2·j + 1 and 2·j + 2
abbrev pub pair_step : ℕ → ℕ → ℕ → Float → Float → ℕ → List Float → List Float
pair_step f n o w v j e = row_step two f n o w v (2 * j + 2) (row_step two f n o w v (2 * j + 1) e)

-- ---- the source rows around the target row at y, z
-- the source field of n cells at `from`, the target row of m cells at o
pub record Spread (g : Sides) (n from o m y z : ℕ) (e : List Float) : Type 0 where
  pub fits : Fit g
  pub all : n ≡ cells g
  pub source : from + n ≤ length e
  pub target : o + m ≤ length e
  pub narrow : m ≤ 32
  pub y_32 : y < 32
  pub z_32 : z < 32

-- the room after the source row at b, c, counted from one, where it is in the box; j and k are its places among the
-- four along y and z
unfoldable pub source_step : Share → Sides → ℕ → ℕ → ℕ → ℕ → ℕ → ℕ → ℕ → List Float → List Float
source_step share g from o m b c j k e =
    cond (ltb (place_at g 1 b c) (cells g)) (up (row_step share (from + place_at g 1 b c) g.nx o (ofℕ (weight_of 0 j k)) (ofℕ (weight_of 1 j k))) m e) e

-- after the r-th of the sixteen fine rows, and of the four coarse rows
abbrev pub fine_step : Sides → ℕ → ℕ → ℕ → ℕ → ℕ → ℕ → List Float → List Float
fine_step g from o m y z r e = source_step four g from o m (2 * y + r % 4) (2 * z + r / 4) (r % 4) (r / 4) e

abbrev pub coarse_step : Sides → ℕ → ℕ → ℕ → ℕ → ℕ → ℕ → List Float → List Float
coarse_step h from o m y z r e =
    source_step two h from o m ((y + 1) / 2 + r % 2) ((z + 1) / 2 + r / 2) (3 - y % 2 - 2 * (r % 2)) (3 - z % 2 - 2 * (r / 2)) e

-- ---- the sums, cell by cell, whatever the labels
-- the sum s with the cell at a, b, c, counted from one, under the weight w, where it is in the box
unfoldable pub plain_term : List Float → Sides → ℕ → ℕ → ℕ → ℕ → Float → Float
plain_term u g a b c w s = cond (in_box g a b c) (s ⊕ ofℕ w ⊗ value u (place_at g a b c)) s

unfoldable pub four_of : List Float → Sides → ℕ → ℕ → ℕ → ℕ → ℕ → Float → Float
four_of u g x b c j k a =
    plain_term u g (2 * x + 3) b c (weight_of 3 j k)
    (plain_term u g (2 * x + 2) b c (weight_of 2 j k) (plain_term u g (2 * x + 1) b c (weight_of 1 j k) (plain_term u g (2 * x) b c (weight_of 0 j k) a)))

unfoldable pub two_of : List Float → Sides → ℕ → ℕ → ℕ → ℕ → ℕ → Float → Float
two_of u h x b c j k a = plain_term u h ((x + 1) / 2 + 1) b c (weight_of (1 - x % 2) j k) (plain_term u h ((x + 1) / 2) b c (weight_of (3 - x % 2) j k) a)

-- of the coarse cell at x, y, z, from the sixteen fine rows; of the fine cell at x, y, z, from the four coarse rows
unfoldable pub drawn_at : Sides → List Float → ℕ → ℕ → ℕ → Float
drawn_at g u x y z = up (λ r. four_of u g x (2 * y + r % 4) (2 * z + r / 4) (r % 4) (r / 4)) 16 +0

unfoldable pub given_at : Sides → List Float → ℕ → ℕ → ℕ → Float
given_at h u x y z = up (λ r. two_of u h x ((y + 1) / 2 + r % 2) ((z + 1) / 2 + r / 2) (3 - y % 2 - 2 * (r % 2)) (3 - z % 2 - 2 * (r / 2))) 4 +0

unfoldable pub drawn_sum : Sides → List Float → ℕ → Float
drawn_sum g u c = let h = halved g in drawn_at g u (along (x_axis h) c) (along (y_axis h) c) (along (z_axis h) c)

unfoldable pub given_sum : Sides → List Float → ℕ → Float
given_sum g u c = given_at (halved g) u (along (x_axis g) c) (along (y_axis g) c) (along (z_axis g) c)

-- ---- the room of two levels, of n and m cells: u, b and t of each, and more
pub record Sums (g h : Sides) (n m : ℕ) (e : List Float) : Type 0 where
  pub fits : Fit g
  pub below : Fit h
  pub next : h ≡ halved g
  pub halves : Halves g.nx h.nx
  pub fine : n ≡ cells g
  pub coarse : m ≡ cells h
  pub room : 3 * n + 3 * m ≤ length e

-- ---- a sum comes to a value, by the cell's label
unfoldable pub over_at : ℕ → Float → Float
over_at l s = cond (eqb l 0) (s ⊘ ofℕ restriction_over) +0

abbrev pub over_step : List ℕ → ℕ → ℕ → List Float → List Float
over_step lc o c e = set e (o + c) (over_at (get_or lc c 0) (value e (o + c)))

unfoldable pub plus_at : ℕ → Float → Float → Float
plus_at l a s = cond (eqb l 0) (a ⊕ s ⊘ ofℕ prolongation_over) +0

abbrev pub plus_step : List ℕ → ℕ → List Float → List Float
plus_step ls c e = set e c (plus_at (get_or ls c 0) (value e c) (value e (2 * length ls + c)))
