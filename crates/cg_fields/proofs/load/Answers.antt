-- `cg_fields::load` meets its contract: after c turns the room is c turns on. Assumes nothing.
use Rattle.laws.proofs.Loops.{ups}
use Rattle.cg_fields.proofs.Made.{load_is}
use Rattle.cg_fields.proofs.load.Goals as goal

pub loop-c-init : goal.loop-c-init
loop-c-init c = search ups

pub loop-c-preserved : goal.loop-c-preserved
loop-c-preserved c = search ups

pub returns : goal.returns
returns c = search (ups, load_is)
