-- The promise of `write_old` allows one result and one final content of the output. Assumes nothing.
use mathlib.Core.Path.{◌≡◌, sym, ◌∙◌}
use mathlib.Core.List.{List}
use Prim.Native.Nat.{ℕ}
use lib.IntN.{ℤ}
use Rattle.method.specs.declared.Sides.{Sides}
use Rattle.old_write.specs.OldWrites.{OldWriteOf}
use Rattle.session_write.specs.declared.Written.{Written}
use Rattle.session_write.proofs.Unique.{written_eq}

pub old_write_one : (s : Sides) (u : ℕ) (ls : List ℕ) (vs : List ℤ) (old : List ℕ) (r q : Written) (x y : List ℕ)
    → OldWriteOf s u ls vs old r x → OldWriteOf s u ls vs old q y → (r ≡ q) × (x ≡ y)
old_write_one s u ls vs old r q x y a b = (written_eq r q (a.answer ∙ sym b.answer) (a.count ∙ sym b.count), a.output ∙ sym b.output)
