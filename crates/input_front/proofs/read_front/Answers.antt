-- `input_front::read_front` meets its contract: each read adds to the front what it took. Assumes nothing.
use Rattle.std.proofs.Common.{rules}
use Rattle.input_front.proofs.Reading.{read_gave, taken_more}
use Rattle.input_front.proofs.read_front.Goals as goal

pub loop-done-preserved : goal.loop-done-preserved
loop-done-preserved g c =
    let gave = read_gave _ _ _ _ _ c.unwrap_or-n.ensures c.read.ensures.bound c.read.ensures.bytes in
    record {
      within = search rules;
      taken = taken_more _ _ _ _ _ _ _ _ c.loop-done.invariant.within c.loop-done.invariant.taken gave;
    }
