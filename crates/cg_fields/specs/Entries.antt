-- The kernels that read no label: what they do at one cell, and what they write at the cell of an entry.
use Rattle.std.specs.Prelude.{ℕ, ◌+◌, ◌*◌, ◌≡◌, List, length, set, drop, Float}
use Rattle.laws.specs.Binary64.{◌⊕◌, ◌⊖◌, ◌⊗◌}
use Rattle.method.specs.declared.Sides.{Sides}
use Rattle.method.specs.Cast.{cells}
use Rattle.method.specs.Transfers.{value, in_air}
use Rattle.method.specs.Cycle.{applied}
use Rattle.method.specs.Rounds.{direction}
use Rattle.cg_fields.specs.Fields.{x_of, p_of, z_of, r_of}

-- ---- at every cell, n to a field
abbrev pub dot_all : List Float → List Float → ℕ → Float → Float
dot_all a b c s = s ⊕ value a c ⊗ value b c

unfoldable pub advance_new : ℕ → Float → ℕ → List Float → Float
advance_new n alpha c r = value r c ⊕ alpha ⊗ value r (n + c)

unfoldable pub reduce_new : ℕ → Float → ℕ → List Float → Float
reduce_new n alpha c r = value r (3 * n + c) ⊖ alpha ⊗ value r (4 * n + c)

unfoldable pub aim_new : ℕ → ℕ → Float → ℕ → List Float → Float
aim_new n done beta c r = direction done beta (value r (2 * n + c)) (value r (n + c))

-- the field that begins at k becomes f
abbrev pub fill_at : ℕ → (ℕ → List Float → Float) → ℕ → List Float → List Float
fill_at k f c r = set r (k + c) (f c r)

-- ---- at the cell of an entry
unfoldable pub applied_new : Sides → List ℕ → ℕ → List Float → Float
applied_new g ls c r = applied g ls (p_of (cells g) r) c

-- p is the new direction; x, r, all beyond t and the length stay. What z and t hold isn't said.
pub record Aimed (g : Sides) (ls : List ℕ) (done : ℕ) (beta : Float) (e s : List Float) : Type 0 where
  pub x : x_of (cells g) s ≡ x_of (cells g) e
  pub p : p_of (cells g) s ≡ in_air g ls (λ c. direction done beta (value (z_of (cells g) e) c) (value (p_of (cells g) e) c))
  pub r : r_of (cells g) s ≡ r_of (cells g) e
  pub beyond : drop (5 * cells g) s ≡ drop (5 * cells g) e
  pub long : length s ≡ length e
