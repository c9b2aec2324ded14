-- What the kernels do at one cell. A field's element stands in the room so many labels further on.
use Rattle.std.specs.Prelude.{ℕ, ◌+◌, ◌*◌, cond, List, length, set, ℤ, Float}
use Rattle.laws.specs.Binary64.{+0, ofℤ}
use Rattle.method.specs.declared.Sides.{Sides}
use Rattle.method.specs.Cast.{is_air}
use Rattle.right_side.specs.Sources.{whole_side}

-- a field that begins at k becomes f of the room, in air
abbrev pub turn : List ℕ → ℕ → (ℕ → List Float → Float) → ℕ → List Float → List Float
turn ls k f c r = set r (k + c) (cond (is_air ls c) (f c r) +0)

-- b into r
abbrev pub load_value : Sides → List ℕ → List ℤ → ℕ → List Float → Float
load_value g ls vs c r = ofℤ (whole_side g ls vs c)

abbrev pub load_turn : Sides → List ℕ → List ℤ → ℕ → List Float → List Float
load_turn g ls vs c r = turn ls (3 * length ls) (load_value g ls vs) c r
