use native.Mathlib.Omega.{arith}
use Rattle.solve.proofs.Solving.{refused_is, known, checked, clear_asked, solved_is}
use Rattle.solve.proofs.solve.Goals as goal

pub overflow_add-b : goal.overflow_add-b
overflow_add-b c =
    let k = known _ _ _ _ _ _ _ _ _ c.judge.ensures c.in-Ok.is in
    omega (arith, k.few)

pub overflow_mul-f : goal.overflow_mul-f
overflow_mul-f c =
    let k = known _ _ _ _ _ _ _ _ _ c.judge.ensures c.in-Ok.is in
    omega (arith, k.few)

pub overflow_add-f : goal.overflow_add-f
overflow_add-f c =
    let k = known _ _ _ _ _ _ _ _ _ c.judge.ensures c.in-Ok.is in
    omega (arith, k.few)

pub slice_bounds-work-end : goal.slice_bounds-work-end
slice_bounds-work-end c =
    let k = known _ _ _ _ _ _ _ _ _ c.judge.ensures c.in-Ok.is in
    omega (arith, k.bytes_room)

pub slice_bounds-work-end-in-Ok : goal.slice_bounds-work-end-in-Ok
slice_bounds-work-end-in-Ok c =
    let k = known _ _ _ _ _ _ _ _ _ c.judge.ensures c.in-Ok.is in
    omega (arith, k.floats_room)

pub slice_bounds-work-end-in-Ok-2 : goal.slice_bounds-work-end-in-Ok-2
slice_bounds-work-end-in-Ok-2 c =
    let k = known _ _ _ _ _ _ _ _ _ c.judge.ensures c.in-Ok.is in
    omega (arith, k.words_room)

pub work-answer-requires : goal.work-answer-requires
work-answer-requires c =
    let k = known _ _ _ _ _ _ _ _ _ c.judge.ensures c.in-Ok.is in
    checked _ _ _ _ _ _ _ _ k

pub clear-requires : goal.clear-requires
clear-requires c =
    let k = known _ _ _ _ _ _ _ _ _ c.judge.ensures c.in-Ok.is in
    clear_asked _ _ _ _ _ _ _ _ k c.work-answer.new.bytes c.work-answer.new.floats c.work-answer.new.words c.work-answer.auto.bytes c.work-answer.auto.floats c.work-answer.auto.words

pub returns-in-Err : goal.returns-in-Err
returns-in-Err c = refused_is _ _ _ _ _ _ _ _ _ _ _ c.judge.ensures c.in-Err.is c.from.ensures

pub returns-in-Ok : goal.returns-in-Ok
returns-in-Ok c =
    let k = known _ _ _ _ _ _ _ _ _ c.judge.ensures c.in-Ok.is in
    solved_is _ _ _ _ _ _ _ _ k c.work-answer.new.bytes c.work-answer.new.floats c.work-answer.new.words c.work-answer.auto.bytes c.work-answer.auto.floats c.work-answer.auto.words _ _ _ _ _ c.work-answer.ensures c.clear.ensures.bytes_after c.clear.ensures.floats_after c.clear.ensures.words_after
