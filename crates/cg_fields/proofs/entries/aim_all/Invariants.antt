-- `cg_fields::entries::aim_all` meets its contract: after c turns the room is c stores on. Assumes nothing.
use Rattle.laws.proofs.Loops.{Up}
use Rattle.cg_fields.specs.Entries.{aim_new, fill_at}
use Rattle.cg_fields.proofs.entries.aim_all.Given as goal

abbrev pub invariant-loop-c : goal.invariant-loop-c
invariant-loop-c l = Up (fill_at l.n (aim_new l.n l.done l.beta)) l.initial.room l.c l.room
