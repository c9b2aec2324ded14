-- The promise of `show` allows one result and one final content of the output. Assumes nothing.
use mathlib.Core.Path.{◌≡◌}
use mathlib.Core.List.{List}
use Prim.Native.Nat.{ℕ}
use Rattle.text_out.proofs.Unique.{put_one}
use Rattle.answer_print.specs.Shows.{PutShort}

pub short_one : (most : ℕ) (bytes old : List ℕ) (at : ℕ) (x y : List ℕ) (r q : ℕ) → PutShort most bytes old at x r → PutShort most bytes old at y q → (r ≡ q) × (x ≡ y)
short_one most bytes old at x y r q a b = put_one bytes old at x y r q a.puts b.puts
