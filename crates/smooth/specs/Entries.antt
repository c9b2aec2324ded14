-- What kernels ask of entries.
use Rattle.std.specs.Prelude.{ℕ, ◌+◌, ◌-◌, ◌*◌, ◌/◌, ◌%◌, ◌≤◌, ◌<◌, ◌≡◌, true, cond, List, eqb, length, get_or, Float}
use Rattle.laws.specs.Binary64.{+0}
use Rattle.method.specs.declared.Sides.{Sides}
use Rattle.method.specs.Cast.{cells, is_air}
use Rattle.method.specs.Transfers.{value}
use Rattle.theory.specs.Sides.{Fit}
use Rattle.smooth.specs.Fields.{Level}
use Rattle.grid.specs.Entries.{entry_of, cells_of}
use Rattle.smooth.specs.Written.{Covers}

-- where a kernel reads for a face: at the neighbour's place where the bit is set, else at a zero's
unfoldable pub picked : ℕ → ℕ → ℕ → ℕ
picked bit place z = cond (eqb bit 1) place z

-- what a kernel asks of a word so that it reads and writes inside fields of n elements
pub record Reads (n nx plane e : ℕ) : Type 0 where
  pub here : e % 32768 < n
  pub step_x : e / 32768 % 2 ≡ 1 → 1 ≤ e % 32768
  pub step_y : e / 131072 % 2 ≡ 1 → nx ≤ e % 32768
  pub step_z : e / 524288 % 2 ≡ 1 → plane ≤ e % 32768
  pub on_x : e / 65536 % 2 ≡ 1 → e % 32768 + 1 < n
  pub on_y : e / 262144 % 2 ≡ 1 → e % 32768 + nx < n
  pub on_z : e / 1048576 % 2 ≡ 1 → e % 32768 + plane < n

-- the word is the entry of an air cell of a cast
pub record Entry (g : Sides) (ls : List ℕ) (n nx plane e : ℕ) : Type 0 where
  pub sides : Fit g
  pub labelled : length ls ≡ cells g
  pub n_is : n ≡ cells g
  pub nx_is : nx ≡ g.nx
  pub plane_is : plane ≡ g.nx * g.ny
  pub here : e % 32768 < cells g
  pub air : is_air ls (e % 32768) ≡ true
  pub is : e ≡ entry_of g ls (e % 32768)

-- the same of each word of a list, and a room of len elements whose zero stands behind the three fields
pub record AllRead (n nx plane z len : ℕ) (es : List ℕ) : Type 0 where
  pub fields : 3 * n ≤ z
  pub zero_in : z < len
  pub at : (k : ℕ) → k < length es → Reads n nx plane (get_or es k 0)

pub record Entries (g : Sides) (ls : List ℕ) (n nx plane : ℕ) (es : List ℕ) : Type 0 where
  pub n_is : n ≡ cells g
  pub at : (k : ℕ) → k < length es → Entry g ls n nx plane (get_or es k 0)

-- a list of entries that holds each air cell
pub record AirEntries (g : Sides) (ls : List ℕ) (n nx plane : ℕ) (es : List ℕ) : Type 0 where
  pub entries : Entries g ls n nx plane es
  pub covers : Covers (cells g) (is_air ls) (cells_of es)

-- a list of words whose cells are below n
pub record InCells (n : ℕ) (es : List ℕ) : Type 0 where
  pub at : (k : ℕ) → k < length es → get_or es k 0 % 32768 < n

-- a level whose list holds entries, and whose room ends in a zero
pub record EntryLevel (g : Sides) (ls es : List ℕ) (r : List Float) : Type 0 where
  pub level : Level g ls r
  pub entries : Entries g ls (length ls) g.nx (g.nx * g.ny) es
  pub spare : 3 * length ls < length r
  pub none : value r (length r - 1) ≡ +0
