-- Document 01, cases a, b, c and f, by the code: these casts meet what `test`, `write_ticks` and `residual_at` require,
-- and what they ensure gives what the document says. Assumes nothing.
use mathlib.Core.Path.{◌≡◌, refl}
use mathlib.Core.List.{List, [], ◌∷◌}
use Prim.Native.Nat.{ℕ, ◌<◌}
use native.Mathlib.Omega.{arith}
use lib.IntN.{ℤ, pos, negsuc}
use lib.Ieee.{Float, nan}
use Rattle.laws.specs.Binary64.{+0, ofℤ}
use Rattle.method.specs.declared.Settings.{Settings}
use Rattle.method.specs.Cast.{cells, label_at, between, sides_fit}
use Rattle.method.specs.Ticks.{rounded}
use Rattle.method.specs.Computing.{computing}
use Rattle.theory.proofs.Sides.{fit}
use Rattle.method.proofs.Cases.{row, cast, ½}
use Rattle.std.specs.Prelude.{Option, Some, None}
use Rattle.ticks.specs.Faces.{Residual}
use Rattle.acceptance.specs.Trial.{Asked, tested}
use Rattle.acceptance.specs.Cells.{rounded_on}

-- labels 1 0 1, values 0 1 0
abbrev labels : List ℕ
labels = 1 ∷ 0 ∷ 1 ∷ []

abbrev values : List ℤ
values = pos 0 ∷ pos 1 ∷ pos 0 ∷ []

abbrev within : ℕ → Settings
within tolerance = record { tolerance = tolerance; levels = 1; rounds = 5 }

-- x at the air cell, zeros elsewhere
abbrev at : Float → List Float
at x = +0 ∷ x ∷ +0 ∷ []

pub case_asked : (x : Float) → Asked (row 3) labels values (at x)
unfolding cells sides_fit between
case_asked x = record {
  sides = fit (row 3) refl;
  labelled = refl;
  valued = refl;
  long = refl;
}

-- c: before the first round, with tolerance 1, the worst is 1 and the air cell 0
pub case_c : (r : Option ℕ) (p : List ℤ) → r ≡ tested (cast 3 labels values) (within 1) (at +0) → p ≡ rounded (cast 3 labels values) (at +0)
    → (r ≡ Some 1) × (p ≡ pos 0 ∷ pos 0 ∷ pos 0 ∷ [])
unfolding tested computing
case_c r p h k = (h, k)

-- a, b: with tolerance 0 it fails, and after a round, where x is a half, too: the tick 1 leaves -1
pub case_a : (r q : Option ℕ) → r ≡ tested (cast 3 labels values) (within 0) (at +0) → q ≡ tested (cast 3 labels values) (within 0) (at ½) → (r ≡ None) × (q ≡ None)
unfolding tested computing
case_a r q h k = (h, k)

-- a NaN fails whatever the tolerance
pub case_nan : (r : Option ℕ) (t : ℕ) → r ≡ tested (cast 3 labels values) (within t) (at nan) → r ≡ None
unfolding tested computing
case_nan r t h = h

-- f: labels 1 0 0 1, levels 0 and 30, sources 0; x holds a and 20 at the air cells
abbrev labels_f : List ℕ
labels_f = 1 ∷ 0 ∷ 0 ∷ 1 ∷ []

abbrev values_f : List ℤ
values_f = pos 0 ∷ pos 0 ∷ pos 0 ∷ pos 30 ∷ []

abbrev slope : ℕ → List Float
slope a = +0 ∷ ofℤ (pos a) ∷ ofℤ (pos 20) ∷ +0 ∷ []

pub case_f_asked : (a : ℕ) → Asked (row 4) labels_f values_f (slope a)
unfolding cells sides_fit between
case_f_asked a = record {
  sides = fit (row 4) refl;
  labelled = refl;
  valued = refl;
  long = refl;
}

-- both air cells are cells of the box, as `residual_at` asks
pub case_f_air : ((1 < cells (row 4)) × (0 ≡ label_at labels_f 1)) × ((2 < cells (row 4)) × (0 ≡ label_at labels_f 2))
unfolding cells label_at
case_f_air = ((omega arith, refl), (omega arith, refl))

-- r is the residual that the ticks of x leave at cell c
abbrev Leaves : ℕ → ℕ → ℤ → Type 0
Leaves a c r = Residual (row 4) labels_f values_f (rounded_on (row 4) labels_f values_f (slope a)) c r

-- pressures 10 and 20 leave 0 and 0
pub case_f_code : (r q : ℤ) → Leaves 10 1 r → Leaves 10 2 q → (r ≡ pos 0) × (q ≡ pos 0)
unfolding computing
case_f_code r q h k = (h.is, k.is)

-- pressures 9 and 20 leave 2 and -1
pub case_f_off_code : (r q : ℤ) → Leaves 9 1 r → Leaves 9 2 q → (r ≡ pos 2) × (q ≡ negsuc 0)
unfolding computing
case_f_off_code r q h k = (h.is, k.is)

-- so the test finds 0 of the one, and of the other 2, within 2 and not within 1
pub case_f_test : (r : Option ℕ) → r ≡ tested (cast 4 labels_f values_f) (within 0) (slope 10) → r ≡ Some 0
unfolding tested computing
case_f_test r h = h

pub case_f_off_test : (r q : Option ℕ) → r ≡ tested (cast 4 labels_f values_f) (within 2) (slope 9) → q ≡ tested (cast 4 labels_f values_f) (within 1) (slope 9)
    → (r ≡ Some 2) × (q ≡ None)
unfolding tested computing
case_f_off_test r q h k = (h, k)
