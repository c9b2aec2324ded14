-- `cg_fields::load` meets its contract: after c turns the room is c turns on. Assumes nothing.
use Rattle.laws.proofs.Loops.{Up}
use Rattle.cg_fields.specs.Turns.{load_turn}
use Rattle.cg_fields.proofs.load.Given as goal

abbrev pub invariant-loop-c : goal.invariant-loop-c
invariant-loop-c l = Up (load_turn l.g l.labels l.values) l.initial.room l.c l.room
