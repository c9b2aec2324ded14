use native.Mathlib.Omega.{arith}
use mathlib.Core.Path.{refl, ap}
use Prim.Native.Nat.{◌+◌}
use Rattle.many_sets.proofs.Turning.{part_length, turned}
use Rattle.many_sets.proofs.take_turn.Goals as goal

pub one_set-answer-requires : goal.one_set-answer-requires
one_set-answer-requires c = record {
  cast_ready = c.requires.cast_ready;
  values_len = (part_length _ _ _ _ c.requires.cast_ready.past.labelled c.requires.sides_in_bounds.0, part_length _ _ _ _ c.requires.cast_ready.past.labelled c.requires.sides_in_bounds.1.0);
}

pub overflow_add-end : goal.overflow_add-end
overflow_add-end c = omega (arith, c.requires.sides_in_bounds.1.1.1)

pub offset_bounds-answers-at : goal.offset_bounds-answers-at
offset_bounds-answers-at c = omega (arith, c.requires.sides_in_bounds.1.1.1)

pub put_answer-requires : goal.put_answer-requires
put_answer-requires c = part_length _ _ _ _ refl c.requires.sides_in_bounds.1.1.0

pub returns : goal.returns
returns c = turned _ _ _ _ _ _ _ _ _ _ _ _ _ (ap (λ m. c.args.from + m) c.requires.cast_ready.past.labelled) refl c.one_set-answer.ensures c.put_answer.ensures
