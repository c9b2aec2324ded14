-- A program's promise from that of `respond`, with rooms for as many cells as the program has room for. Assumes
-- nothing.
use mathlib.Core.Path.{◌≡◌, sym}
use mathlib.Core.List.{List}
use Prim.Native.Nat.{ℕ, ◌+◌, ◌*◌, ◌≤◌}
use native.Mathlib.Omega.{arith}
use lib.ListN.{length, take}
use lib.Seq.{length-take-le}
use Rattle.method.specs.Rooms.{byte_need, float_need, word_need}
use Rattle.method.specs.Program.{printed}
use Rattle.prints.proofs.Fronts.{front_prints_for}
use Rattle.text_out.proofs.PutLaws.{put_length}
use Rattle.answer_print.specs.Shows.{print_room, PutShort}
use Rattle.answer_session.specs.Responds.{Roomy, FrontOf}

-- a part of a slice has as many elements as it was asked for
pub part_long : (n : ℕ) (xs : List ℕ) → n ≤ length xs → n ≡ length (take n xs)
part_long n xs h = sym (length-take-le n xs h)

-- the rooms that a program lends, by the cells that it has room for
pub rooms_for : {room : ℕ} (n : ℕ) → n ≡ room → Roomy room n n (2 * n + 16) (8 * n + 64) (2 * n) (26 * n + 160)
unfolding byte_need float_need word_need
rooms_for n e = record { values_long = omega arith; pressures_long = omega arith; bytes_long = omega arith; floats_long = omega arith; words_long = omega arith; output_long = omega arith }

pub at_limit : {room limit values pressures bytes floats words output : ℕ} → limit ≡ room → Roomy room values pressures bytes floats words output
    → Roomy limit values pressures bytes floats words output
at_limit e r = rw e r

-- the print of what was handed in is that of every input of which it is the front
pub front_put : {room : ℕ} (limit : ℕ) (front : List ℕ) {old new : List ℕ} {r : ℕ} → PutShort (print_room limit) (printed limit front) old 0 new r → limit ≡ room
    → print_room room ≤ length old → FrontOf room front old new r
front_put {room} limit front {old} {new} {r} p e h =
    let q : PutShort (print_room room) (printed room front) old 0 new r = rw e at p in
    record { prints = λ bs f. rw (← front_prints_for room bs front f) q; within = omega (arith, q.short, put_length q.puts) }
