-- Document 01, "The cast". Definitions only.
use Rattle.std.specs.Prelude.{ℕ, zero, suc, ◌+◌, ◌-◌, ◌*◌, ◌/◌, ◌%◌, max, Bool, ◌&&◌, cond, List, [], ◌∷◌, ltb, leb, eqb, get_or, ℤ, pos, nat_abs, Option, None, Some}
use Rattle.laws.specs.Loops.{up}
use Rattle.laws.specs.Lists.{over}
use Rattle.laws.specs.Whole.{◌+ᶻ◌, ◌-ᶻ◌, ◌*ᶻ◌}
use Rattle.method.specs.declared.Sides.{Sides}
use Rattle.method.specs.declared.Settings.{Settings}

-- A cast: its sides, and a label and a value for each cell.
pub record Cast : Type 0 where
  pub sides : Sides
  pub labels : List ℕ
  pub values : List ℤ

-- ---- "Cell (i, j, k) has number i + nx·(j + ny·k)."
unfoldable pub cells : Sides → ℕ
cells s = s.nx * (s.ny * s.nz)

unfoldable pub number : Sides → ℕ → ℕ → ℕ → ℕ
number s i j k = i + s.nx * (j + s.ny * k)

-- An axis: one step along it adds its stride to the number. The coordinate of a cell along an axis.
pub record Axis : Type 0 where
  pub stride : ℕ
  pub side : ℕ

unfoldable pub axes : Sides → List Axis
axes s =
    record { stride = 1; side = s.nx } ∷ record { stride = s.nx; side = s.ny } ∷ record { stride = s.nx * s.ny; side = s.nz } ∷ []

unfoldable pub along : Axis → ℕ → ℕ
along a c = c / a.stride % a.side

-- ---- "0 air, 1 opening, 2 wall; outside the box is wall": outside is the number of cells, which is no cell's number.
unfoldable pub label_at : List ℕ → ℕ → ℕ
label_at ls c = get_or ls c 2

unfoldable pub is_air : List ℕ → ℕ → Bool
is_air ls c = eqb (label_at ls c) 0

unfoldable pub is_opening : List ℕ → ℕ → Bool
is_opening ls c = eqb (label_at ls c) 1

unfoldable pub no_wall : List ℕ → ℕ → Bool
no_wall ls c = ltb (label_at ls c) 2

-- The face neighbours, in the order -x, +x, -y, +y, -z, +z: one step back and one step on along each axis.
unfoldable pub back : ℕ → Axis → ℕ → ℕ
back n a c = cond (ltb 0 (along a c)) (c - a.stride) n

unfoldable pub on : ℕ → Axis → ℕ → ℕ
on n a c = cond (ltb (along a c + 1) a.side) (c + a.stride) n

unfoldable pub beside : ℕ → List Axis → ℕ → List ℕ
beside n [] c = []
beside n (a ∷ l) c = back n a c ∷ on n a c ∷ beside n l c

unfoldable pub around : Sides → ℕ → List ℕ
around s c = beside (cells s) (axes s) c

-- ---- "an opening's level, -1,000,000 to 1,000,000; an air cell's source, -1,000 to 1,000; at a wall, 0"
unfoldable pub widest : ℕ → ℕ
widest zero = 1000
widest (suc zero) = 1000000
widest (suc (suc l)) = 0

-- A field of whole numbers, by cell; an opening's level is its value, elsewhere the level is 0.
abbrev pub field : List ℤ → ℕ → ℤ
field vs c = get_or vs c (pos 0)

unfoldable pub level : List ℕ → List ℤ → ℕ → ℤ
level ls vs c = cond (is_opening ls c) (field vs c) (pos 0)

-- ---- "d counts the non-wall face neighbours"; "Residual = source + that sum - d·p"
unfoldable pub degree : Sides → List ℕ → ℕ → ℕ
degree s ls c = over (no_wall ls) (λ j d. d + 1) (around s c) 0

unfoldable pub sum_around : Sides → List ℕ → (ℕ → ℤ) → ℕ → ℤ
sum_around s ls p c = over (no_wall ls) (λ j r. r +ᶻ p j) (around s c) (pos 0)

unfoldable pub residual : Sides → List ℕ → (ℕ → ℤ) → (ℕ → ℤ) → ℕ → ℤ
residual s ls source p c = source c +ᶻ sum_around s ls p c -ᶻ pos (degree s ls c) *ᶻ p c

-- The cells over which the test, worst, interior and depth range: the air cells.
unfoldable pub judged : List ℕ → ℕ → Bool
judged ls c = is_air ls c

-- "worst (greatest absolute residual), interior (air cells)"
unfoldable pub worst : Cast → List ℤ → ℕ
worst k ps =
    up (λ c w. cond (judged k.labels c) (max w (nat_abs (residual k.sides k.labels (field k.values) (field ps) c))) w)
    (cells k.sides) 0

unfoldable pub interior : Sides → List ℕ → ℕ
interior s ls = up (λ c i. cond (judged ls c) (i + 1) i) (cells s) 0

-- The first of the cells 0 to n - 1 at which a test passes.
unfoldable pub or_else : Option ℕ → Option ℕ → Option ℕ
or_else None g = g
or_else (Some c) g = Some c

unfoldable pub first : (ℕ → Bool) → ℕ → Option ℕ
first test n = up (λ c f. or_else f (cond (test c) (Some c) None)) n None

-- Document 02, wish 5: "the first air cell with the greatest absolute residual and that residual with its sign"
unfoldable pub is_worst : Cast → List ℤ → ℕ → Bool
is_worst k ps c = judged k.labels c && eqb (nat_abs (residual k.sides k.labels (field k.values) (field ps) c)) (worst k ps)

unfoldable pub worst_cell : Cast → List ℤ → ℕ
worst_cell k ps = elim (first (is_worst k ps) (cells k.sides)) [ Some c ↦ c | None ↦ 0 ]

unfoldable pub worst_value : Cast → List ℤ → ℤ
worst_value k ps =
    elim (first (is_worst k ps) (cells k.sides)) [
      | Some c ↦ residual k.sides k.labels (field k.values) (field ps) c
      | None ↦ pos 0
    ]

-- ---- "Sides nx, ny, nz are 1 to 32." "Settings: tolerance 0 to 1,000,000; levels 1 to 6; round limit 0 to 1,000."
unfoldable pub between : ℕ → ℕ → ℕ → Bool
between lo hi x = leb lo x && leb x hi

unfoldable pub sides_fit : Sides → Bool
sides_fit s = between 1 32 s.nx && (between 1 32 s.ny && between 1 32 s.nz)

unfoldable pub settings_fit : Settings → Bool
settings_fit t = between 0 1000000 t.tolerance && (between 1 6 t.levels && between 0 1000 t.rounds)

-- a label above 2; a value out of its label's range
unfoldable pub bad_label : Sides → List ℕ → Option ℕ
bad_label s ls = first (λ c. ltb 2 (label_at ls c)) (cells s)

unfoldable pub bad_value : Sides → List ℕ → List ℤ → Option ℕ
bad_value s ls vs = first (λ c. ltb (widest (label_at ls c)) (nat_abs (field vs c))) (cells s)

-- ---- checks 4 and 5, of a cast
abbrev pub label_fault : Cast → Option ℕ
label_fault k = bad_label k.sides k.labels

abbrev pub value_fault : Cast → Option ℕ
value_fault k = bad_value k.sides k.labels k.values

-- one name that opens this file
unfoldable pub computing_cast : Unit {0}
unfolding cells number axes along label_at is_air is_opening no_wall back on beside around widest level degree sum_around residual judged worst interior or_else first is_worst worst_cell worst_value between sides_fit settings_fit bad_label bad_value
computing_cast = tt
