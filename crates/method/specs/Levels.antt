-- Document 01, "Levels of the grid": sides, children and labels of the next level. Definitions only.
use Rattle.std.specs.Prelude.{ℕ, ◌+◌, ◌-◌, ◌*◌, ◌/◌, ◌%◌, ◌^◌, ◌&&◌, cond, ltb, leb, length}
use mathlib.Core.List.{List, [], ◌∷◌, map, zip_with}
use Rattle.laws.specs.Lists.{tab, any}
use Rattle.method.specs.declared.Sides.{Sides}
use Rattle.method.specs.Cast.{cells, Axis, axes, along, is_air, is_opening}

-- ---- "Each side of the next level is half, rounded up."
unfoldable pub half : ℕ → ℕ
half m = (m + 1) / 2

unfoldable pub halved : Sides → Sides
halved s = record { nx = half s.nx; ny = half s.ny; nz = half s.nz }

-- An axis of a level beside the same axis of the next: what is drawn together goes along each of these.
pub record Halving : Type 0 where
  pub fine : Axis
  pub coarse : Axis

unfoldable pub halvings : Sides → List Halving
halvings s = zip_with (λ f g. record { fine = f; coarse = g }) (axes s) (axes (halved s))

-- A cell that is drawn from, or n, which is no cell, where the place is outside; and its weight.
pub record Drawn : Type 0 where
  pub cell : ℕ
  pub weight : ℕ

-- along one axis the place with coordinate p - 1, so that -1 is had
unfoldable pub placed : ℕ → Axis → ℕ → ℕ → Drawn
placed n a p w = record { cell = cond (ltb 0 p && leb p a.side) ((p - 1) * a.stride) n; weight = w }

unfoldable pub joined : ℕ → Drawn → Drawn → Drawn
joined n d e = record { cell = cond (ltb d.cell n && ltb e.cell n) (d.cell + e.cell) n; weight = d.weight * e.weight }

-- The t-th choice of one of w ways along each axis, x fastest, so that t ascends with the cell's number; weights
-- multiply.
unfoldable pub choice : ℕ → ℕ → (Halving → ℕ → Drawn) → List Halving → ℕ → Drawn
choice n w way [] t = record { cell = 0; weight = 1 }
choice n w way (h ∷ hs) t = joined n (way h (t % w)) (choice n w way hs (t / w))

unfoldable pub choices : ℕ → ℕ → (Halving → ℕ → Drawn) → List Halving → List Drawn
choices n w way hs = tab (w ^ length hs) (choice n w way hs)

-- ---- "The children of coarse (I, J, K) are (2I+a, 2J+b, 2K+c), a, b, c each 0 or 1."
unfoldable pub children : Sides → ℕ → List ℕ
children s c = map (λ d. d.cell) (choices (cells s) 2 (λ h q. placed (cells s) h.fine (2 * along h.coarse c + q + 1) 1) (halvings s))

-- "Coarse label: opening if any child is, else air if any child is, else wall."
unfoldable pub coarse_label : Sides → List ℕ → ℕ → ℕ
coarse_label s ls c = let kids = children s c in cond (any (is_opening ls) kids) 1 (cond (any (is_air ls) kids) 0 2)

unfoldable pub coarse : Sides → List ℕ → List ℕ
coarse s ls = tab (cells (halved s)) (coarse_label s ls)

-- one name that opens this file
unfoldable pub computing_levels : Unit {0}
unfolding half halved halvings placed joined choice choices children coarse_label coarse
computing_levels = tt
