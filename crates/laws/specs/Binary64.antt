-- IEEE 754 binary64, each operation rounded once, under the usual circled signs.
use Rattle.std.specs.Prelude.{ℕ, false, ℤ, pos, Float}
use Rattle.std.specs.Float.{fin, binary64}
use Rattle.std.specs.Float.Ieee.{add, sub, mul, div, of_int}

infixl 60 ◌⊕◌ ◌⊖◌
infixl 70 ◌⊗◌ ◌⊘◌
abbrev pub ◌⊕◌ : Float → Float → Float
x ⊕ y = add binary64 x y

abbrev pub ◌⊖◌ : Float → Float → Float
x ⊖ y = sub binary64 x y

abbrev pub ◌⊗◌ : Float → Float → Float
x ⊗ y = mul binary64 x y

abbrev pub ◌⊘◌ : Float → Float → Float
x ⊘ y = div binary64 x y

abbrev pub +0 : Float
+0 = fin false 0 (pos 0)

abbrev pub ofℤ : ℤ → Float
ofℤ z = of_int binary64 z

abbrev pub ofℕ : ℕ → Float
ofℕ n = of_int binary64 (pos n)
