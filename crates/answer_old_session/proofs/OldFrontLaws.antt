-- The promise of a program that takes old sessions, from that of `respond_old` with room for the greatest cast. Assumes
-- nothing.
use mathlib.Core.Path.{◌≡◌}
use mathlib.Core.List.{List}
use Prim.Native.Nat.{ℕ, ◌≤◌}
use native.Mathlib.Omega.{arith}
use lib.ListN.{length}
use Rattle.method.specs.declared.Settings.{Settings}
use Rattle.method.specs.OldProgram.{old_printed}
use Rattle.prints.specs.Prints.{large_room}
use Rattle.prints.proofs.OldFronts.{old_front_prints}
use Rattle.text_out.proofs.PutLaws.{put_length}
use Rattle.answer_print.specs.Shows.{print_room, PutShort}
use Rattle.answer_old_session.specs.OldResponds.{OldProgramOf}

pub old_front_put : (room : ℕ) (t : Settings) (front : List ℕ) {old new : List ℕ} {r : ℕ} → PutShort (print_room room) (old_printed room t front) old 0 new r → room ≡ large_room
    → print_room large_room ≤ length old → OldProgramOf t front old new r
old_front_put room t front {old} {new} {r} p e h =
    let q : PutShort (print_room large_room) (old_printed large_room t front) old 0 new r = rw e at p in
    record { prints = λ bs f. rw (← old_front_prints large_room t bs front f) q; within = omega (arith, q.short, put_length q.puts) }
