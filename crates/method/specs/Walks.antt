-- Document 01, "The cast": walks through air to an opening, and depth. Definitions only.
use Rattle.std.specs.Prelude.{ℕ, zero, suc, max, Bool, true, false, not, ◌&&◌, cond, List, get_or, Option, None, Some}
use Rattle.laws.specs.Loops.{up}
use Rattle.laws.specs.Lists.{tab, any}
use Rattle.method.specs.declared.Sides.{Sides}
use Rattle.method.specs.Cast.{cells, is_air, is_opening, around, judged, first}

-- ---- "the least number of face steps through air to an opening", where k steps are enough
unfoldable pub is_at : Option ℕ → Bool
is_at None = false
is_at (Some c) = true

unfoldable pub nearer : Bool → ℕ → Option ℕ → Option ℕ
nearer near k (Some d) = Some d
nearer true k None = Some (suc k)
nearer false k None = None

unfoldable pub walks : Sides → List ℕ → ℕ → List (Option ℕ)
walks s ls zero = tab (cells s) (λ c. cond (is_opening ls c) (Some 0) None)
walks s ls (suc k) =
    let known = walks s ls k in
    tab (cells s) (λ c. nearer (is_air ls c && any (λ j. is_at (get_or known j None)) (around s c)) k (get_or known c None))

-- A walk has no more steps than there are cells.
unfoldable pub walk : Sides → List ℕ → List (Option ℕ)
walk s ls = walks s ls (cells s)

unfoldable pub steps_of : Option ℕ → ℕ
steps_of None = 0
steps_of (Some d) = d

-- "Depth is the greatest, over air cells, of the least number of face steps through air to an opening."
unfoldable pub depth : Sides → List ℕ → ℕ
depth s ls =
    let known = walk s ls in
    up (λ c d. cond (judged ls c) (max d (steps_of (get_or known c None))) d) (cells s) 0

-- the first air cell with no walk through air to an opening
unfoldable pub sealed : Sides → List ℕ → Option ℕ
sealed s ls =
    let known = walk s ls in
    first (λ c. is_air ls c && not (is_at (get_or known c None))) (cells s)

-- one name that opens this file
unfoldable pub computing_walks : Unit {0}
unfolding is_at nearer walks walk steps_of depth sealed
computing_walks = tt
