-- `many_sets::all_sets` meets its contract: after s turns the first s stretches are done. Assumes nothing.
use Prim.Native.Nat.{◌*◌}
use mathlib.Core.Path.{refl, ap}
use Rattle.many_sets.proofs.Turning.{done_none, done_more, done_all}
use Rattle.many_sets.proofs.all_sets.Goals as goal

pub loop-s-init : goal.loop-s-init
loop-s-init c = done_none _ _ _ _ _ _ _

pub loop-s-preserved : goal.loop-s-preserved
loop-s-preserved c =
    done_more _ _ _ _ _ _ _ _ _ _ _ _ _ _ c.loop-s-test.true (ap (λ n. c.loop-s.s * n) c.requires.cast_ready.past.labelled) refl c.loop-s.invariant c.take_turn.ensures

pub returns : goal.returns
returns c = done_all _ _ _ _ _ _ _ _ _ _ c.loop-s.auto.s-end c.loop-s-test.false c.requires.sets_asked.pressed c.requires.sets_asked.answered c.loop-s.invariant
