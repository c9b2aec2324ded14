-- What the kernels over entries write at an air cell, from the room as it is: the new u by Jacobi from the old u in t,
-- the new u by Jacobi from u = 0, and b - A u.
use Rattle.std.specs.Prelude.{ℕ, List, Float}
use Rattle.laws.specs.Binary64.{◌⊕◌, ◌⊗◌, ◌⊘◌, ofℕ}
use Rattle.method.specs.declared.Sides.{Sides}
use Rattle.method.specs.Cast.{cells}
use Rattle.method.specs.Transfers.{value}
use Rattle.method.specs.Cycle.{rest, change, zeros}
use Rattle.smooth.specs.Fields.{u_of, b_of, t_of}

unfoldable pub jacobi_new : Sides → List ℕ → ℕ → List Float → Float
jacobi_new g ls c r = value (t_of (cells g) r) c ⊕ (ofℕ 2 ⊘ ofℕ 3) ⊗ change g ls (b_of (cells g) r) (t_of (cells g) r) c

unfoldable pub first_new : Sides → List ℕ → ℕ → List Float → Float
first_new g ls c r = value (zeros g) c ⊕ (ofℕ 2 ⊘ ofℕ 3) ⊗ change g ls (b_of (cells g) r) (zeros g) c

unfoldable pub residue_new : Sides → List ℕ → ℕ → List Float → Float
residue_new g ls c r = rest g ls (b_of (cells g) r) (u_of (cells g) r) c
