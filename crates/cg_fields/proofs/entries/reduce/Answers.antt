-- `cg_fields::entries::reduce` meets its contract: after c turns the room is c stores on. Assumes nothing.
use native.Mathlib.Omega.{arith}
use Rattle.laws.proofs.Loops.{ups}
use Rattle.cg_fields.proofs.Calm.{reduce_more, reduce_quiet}
use Rattle.cg_fields.proofs.entries.reduce.Goals as goal

pub loop-c-init : goal.loop-c-init
loop-c-init c = search ups

pub loop-c-preserved : goal.loop-c-preserved
loop-c-preserved c =
    let a = c.args in
    reduce_more a.n c.loop-c.c a.alpha a.room.now c.loop-c.room c.loop-c.invariant

pub returns : goal.returns
returns c = reduce_quiet c.args.alpha c.loop-c.invariant (omega arith) (omega arith) (omega arith) (search ups)
