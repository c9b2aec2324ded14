-- `library_tests::cycles` meets its contract: after every turn u is the cycle's from b, and b stays. Assumes nothing.
use lib.ListN.{length}
use Rattle.levels.specs.Levels.{base}
use Rattle.cycle.specs.Strokes.{Ended}
use Rattle.cycle.specs.Rooms.{Ready, Cycled, fields_from}
use Rattle.library_tests.proofs.cycles.Given as goal

abbrev pub invariant-loop : goal.invariant-loop
invariant-loop l = Cycled l.l l.bytes l.count 0 l.initial.room l.room × (Ready l.l l.s l.count 0 l.bytes l.words (length l.room) × Ended (fields_from (base l.l) l.count 0) l.room)
