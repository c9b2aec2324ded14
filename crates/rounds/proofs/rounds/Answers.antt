-- `rounds::rounds` meets its contract: after so many rounds, as many are left as the limit allows. Assumes nothing.
use mathlib.Core.Path.{refl, ◌∙◌}
use Rattle.rounds.proofs.Calm.{scaled_calm, scaled_t, advanced_calm, go_finite}
use Rattle.rounds.proofs.Budget.{left_pass, left_stall, left_more, left_last, left_end, held_ready}
use Rattle.rounds.proofs.rounds.Goals as goal

pub returns-in-Some : goal.returns-in-Some
returns-in-Some c = left_pass _ _ _ _ _ _ _ _ c.loop-done.invariant.left _ c.test_x.ensures _ _ c.in-Some.is refl

pub returns-in-Err : goal.returns-in-Err
returns-in-Err c = left_stall _ _ _ _ _ _ _ _ c.loop-done.invariant.left _ c.test_x.ensures _ _ _ _ c.requires.ready c.loop-done-test.true c.in_default.is _ _ c.scalars_of-q.ensures _ c.step_of.ensures _ _ c.in-Err.is refl

pub move_on-requires : goal.move_on-requires
move_on-requires c = record {
  held = held_ready c.requires.ready _ (c.scalars_of-q.auto.room ∙ c.loop-done.auto.room);
  alpha_value = go_finite _ _ _ c.step_of.ensures c.in-Ok.is;
  calm = scaled_calm c.scalars_of-q.ensures c.loop-done.invariant.calm;
  quiet = scaled_t c.scalars_of-q.ensures;
}

pub loop-done-preserved : goal.loop-done-preserved
loop-done-preserved c = record {
  calm = advanced_calm (scaled_calm c.scalars_of-q.ensures c.loop-done.invariant.calm) c.move_on.ensures;
  left = left_more _ _ _ _ _ _ _ _ c.loop-done.invariant.left _ c.test_x.ensures _ _ _ _ c.requires.ready c.loop-done-test.true c.in_default.is _ _ c.scalars_of-q.ensures _ c.step_of.ensures _ _ c.in-Ok.is c.move_on.ensures;
}

pub returns-in-Some-test_x : goal.returns-in-Some-test_x
returns-in-Some-test_x c = left_last _ _ _ _ _ _ _ _ c.loop-done.invariant.left _ c.test_x-2.ensures _ _ c.loop-done-test.false c.loop-done.auto.done-end c.in-Some-test_x.is refl

pub returns-in-None : goal.returns-in-None
returns-in-None c = left_end _ _ _ _ _ _ _ _ c.loop-done.invariant.left _ c.test_x-2.ensures _ c.loop-done-test.false c.loop-done.auto.done-end c.in-None.is refl
