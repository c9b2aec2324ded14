-- Document 01, "Levels of the grid": restriction and prolongation. Definitions only.
use Rattle.std.specs.Prelude.{ℕ, ◌+◌, ◌-◌, ◌*◌, ◌/◌, ◌%◌, cond, List, [], ◌∷◌, get_or, Float}
use Rattle.std.specs.Float.{nan}
use Rattle.laws.specs.Lists.{tab, over}
use Rattle.laws.specs.Binary64.{◌⊕◌, ◌⊗◌, ◌⊘◌, +0, ofℕ}
use Rattle.method.specs.declared.Sides.{Sides}
use Rattle.method.specs.Cast.{cells, along, is_air}
use Rattle.method.specs.Levels.{halved, halvings, Drawn, placed, choices, coarse}

-- ---- "coarse cell I draws along each axis from fine 2I-1, 2I, 2I+1, 2I+2 with weights 1, 3, 3, 1"
unfoldable pub axis_weight : ℕ → ℕ
axis_weight q = get_or (1 ∷ 3 ∷ 3 ∷ 1 ∷ []) q 0

unfoldable pub drawn_by : Sides → ℕ → List Drawn
drawn_by s c = choices (cells s) 4 (λ h q. placed (cells s) h.fine (2 * along h.coarse c + q) (axis_weight q)) (halvings s)

-- "Prolongation: the same weights from coarse to fine": fine i is drawn by coarse (i+1)/2 - 1 and (i+1)/2, where it is
-- the (3 - i%2)-th and the (1 - i%2)-th of the four.
unfoldable pub given_to : Sides → ℕ → List Drawn
given_to s c =
    let n = cells (halved s) in
    choices n 2 (λ h q. placed n h.coarse ((along h.fine c + 1) / 2 + q) (axis_weight (3 - along h.fine c % 2 - 2 * q))) (halvings s)

-- ---- a field has one element a cell; "Into air cells only; a cell that isn't air gives zero."
abbrev pub value : List Float → ℕ → Float
value u c = get_or u c nan

unfoldable pub in_air : Sides → List ℕ → (ℕ → Float) → List Float
in_air s ls f = tab (cells s) (λ c. cond (is_air ls c) (f c) +0)

-- "Sums start at +0.0", in ascending number; what isn't air adds no term.
unfoldable pub weighted : List ℕ → List Float → List Drawn → Float
weighted ls u ds = over (λ d. is_air ls d.cell) (λ d a. a ⊕ ofℕ d.weight ⊗ value u d.cell) ds +0

unfoldable pub restriction_over : ℕ
restriction_over = 512

-- document 02, wish 4: "Prolongation is henceforth the product weight over 16."
unfoldable pub prolongation_over : ℕ
prolongation_over = 16

unfoldable pub restricted : Sides → List ℕ → List Float → List Float
restricted s ls u = in_air (halved s) (coarse s ls) (λ c. weighted ls u (drawn_by s c) ⊘ ofℕ restriction_over)

unfoldable pub prolongated : Sides → List ℕ → List Float → List Float
prolongated s ls w = let lc = coarse s ls in in_air s ls (λ c. weighted lc w (given_to s c) ⊘ ofℕ prolongation_over)

-- one name that opens this file
unfoldable pub computing_transfers : Unit {0}
unfolding axis_weight drawn_by given_to in_air weighted restriction_over prolongation_over restricted prolongated
computing_transfers = tt
