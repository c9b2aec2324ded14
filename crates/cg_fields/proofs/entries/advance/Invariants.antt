-- `cg_fields::entries::advance` meets its contract: after c turns the room is c stores on. Assumes nothing.
use Rattle.laws.proofs.Loops.{Up}
use Rattle.cg_fields.specs.Entries.{advance_new, fill_at}
use Rattle.cg_fields.proofs.entries.advance.Given as goal

abbrev pub invariant-loop-c : goal.invariant-loop-c
invariant-loop-c l = Up (fill_at 0 (advance_new l.n l.alpha)) l.initial.room l.c l.room
