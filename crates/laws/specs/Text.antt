-- A text as its bytes, one for each character: for texts of ASCII alone.
use Rattle.std.specs.Prelude.{ℕ, List, [], ◌∷◌}
use Prim.Native.Char.{code}
use Prim.Native.String.{String, [] as empty, ◌∷◌ as ◌then◌}

abbrev pub text : String → List ℕ
text empty = []
text (c then s) = code c ∷ text s
