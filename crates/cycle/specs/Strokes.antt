-- What one level's strokes do to its fields.
use Rattle.std.specs.Prelude.{ℕ, ◌+◌, ◌-◌, ◌*◌, ◌<◌, ◌≡◌, Bool, true, false, List, ◌++◌, map, ltb, length, drop, Float}
use Rattle.laws.specs.Binary64.{+0}
use Rattle.method.specs.declared.Sides.{Sides}
use Rattle.method.specs.Cast.{cells}
use Rattle.method.specs.Transfers.{value, restricted}
use Rattle.method.specs.Cycle.{in_band, times, sweeps, descending, jacobi, residue}
use Rattle.theory.specs.Waves.{waves}
use Rattle.grid.specs.Entries.{entry_of}
use Rattle.smooth.specs.Fields.{u_of, b_of}
use Rattle.smooth.specs.Sweeps.{swept_up, swept_down}
use Rattle.smooth.specs.Entries.{AirEntries}

-- the entries of the cells that pass a test, wave by wave
abbrev pub entries_where : Sides → List ℕ → (ℕ → Bool) → List ℕ
entries_where g ls at = map (entry_of g ls) (waves g at)

-- the list holds the entry of each air cell
abbrev pub AirList : Sides → List ℕ → List ℕ → Type 0
AirList g ls es = AirEntries g ls (length ls) g.nx (g.nx * g.ny) es

-- a room whose last element is zero and stands behind the first m
pub record Ended (m : ℕ) (r : List Float) : Type 0 where
  pub spare : m < length r
  pub none : value r (length r - 1) ≡ +0

-- a sweep over a list of cells, forward or against the list's order
unfoldable pub swept : Bool → Sides → List ℕ → List ℕ → List Float → List Float → List Float
swept true g ls cs b u = swept_up g ls cs b u
swept false g ls cs b u = swept_down g ls cs b u

abbrev pub sweep_turn : Bool → Sides → List ℕ → List ℕ → List Float → List Float
sweep_turn forward g ls cs e = swept forward g ls cs (b_of (cells g) e) (u_of (cells g) e) ++ drop (cells g) e

abbrev pub swept_room : ℕ → Bool → Sides → List ℕ → List ℕ → List Float → List Float
swept_room k forward g ls cs e = times k (swept forward g ls cs (b_of (cells g) e)) (u_of (cells g) e) ++ drop (cells g) e

-- "8 ascending and 8 descending Gauss-Seidel sweeps": sweep i of the sixteen
abbrev pub coarsest_turn : Sides → List ℕ → List ℕ → ℕ → List Float → List Float
coarsest_turn g ls cs i e = sweep_turn (ltb i 8) g ls cs e

-- from room e to room x, of fields of n elements: u becomes v; b, all beyond m elements and the length stay. What lies
-- between isn't said.
pub record Put (n m : ℕ) (v e x : List Float) : Type 0 where
  pub u : u_of n x ≡ v
  pub b : b_of n x ≡ b_of n e
  pub beyond : drop m x ≡ drop m e
  pub long : length x ≡ length e

-- "then 2^(l+1) descending band sweeps; one Jacobi", from the corrected u
unfoldable pub rising : ℕ → Sides → List ℕ → List Float → List Float → List Float
rising k g ls b u = jacobi g ls b (times (sweeps k) (descending g ls (in_band g ls) b) u)

-- the coarser b is the restricted residual; u, b, all beyond the coarser fields and the length stay
pub record Lowered (g h : Sides) (ls : List ℕ) (e x : List Float) : Type 0 where
  pub u : u_of (cells g) x ≡ u_of (cells g) e
  pub b : b_of (cells g) x ≡ b_of (cells g) e
  pub below : b_of (cells h) (drop (3 * cells g) x) ≡ restricted g ls (residue g ls (b_of (cells g) e) (u_of (cells g) e))
  pub beyond : drop (3 * cells g + 3 * cells h) x ≡ drop (3 * cells g + 3 * cells h) e
  pub long : length x ≡ length e
