-- `text_out::put_bytes` meets its contract: i bytes are put. Assumes nothing.
use Prim.Native.Nat.{◌≤◌}
use mathlib.Core.Path.{◌≡◌}
use lib.ListN.{length}
use Rattle.text_out.proofs.PutLaws.{Copied}
use Rattle.text_out.proofs.put_bytes.Given as goal

abbrev pub invariant-loop-i : goal.invariant-loop-i
invariant-loop-i l = (length l.output ≡ length l.initial.output) × Copied l.bytes l.initial.output l.at l.i l.output
