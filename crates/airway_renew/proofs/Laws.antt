-- The part of an output that was put. Assumes nothing.
use mathlib.Core.Path.{◌≡◌, sym}
use mathlib.Core.List.{List}
use Prim.Native.Nat.{ℕ, ◌≤◌}
use native.Mathlib.Omega.{arith}
use lib.ListN.{length, take}
use lib.Seq.{length-take-le}
use Rattle.text_out.proofs.PutLaws.{put_length}
use Rattle.answer_print.specs.Shows.{PutShort}

pub put_part : {most : ℕ} {bytes old new : List ℕ} {r : ℕ} → PutShort most bytes old 0 new r → most ≤ length old → r ≡ length (take r new)
put_part {most} {bytes} {old} {new} {r} p h = sym (length-take-le r new (omega (arith, p.short, put_length p.puts)))
