-- `rooms::clear_front` meets its contract: after i turns i elements are z. Assumes nothing.
use Rattle.laws.proofs.Loops.{Up}
use Rattle.rooms.proofs.Clears.{zeroed}
use Rattle.rooms.proofs.clear_front.Given as goal

abbrev pub invariant-loop-i : goal.invariant-loop-i
invariant-loop-i g l = Up (zeroed l.z) l.initial.room l.i l.room
