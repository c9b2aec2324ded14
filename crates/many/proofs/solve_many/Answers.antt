use Prim.Native.Nat.{◌+◌, ◌-◌, ◌*◌}
use lib.ListN.{length}
use mathlib.Core.Path.{◌∙◌}
use native.Mathlib.Omega.{arith}
use borrow.Rule.Slice.PartMut.{same_len_mid}
use Rattle.many.proofs.ManySolving.{refused_is, known, checked, clear_asked, solved_is}
use Rattle.many.proofs.solve_many.Goals as goal

pub overflow_add-b : goal.overflow_add-b
overflow_add-b c =
    let k =
    known c.args.sides c.args.labels.now c.args.settings c.args.sets c.args.values.now c.args.pressures.now c.args.answers.now c.args.bytes.now c.args.floats.now c.args.words.now
    _ c.judge.ensures c.in-Ok.is in
    omega (arith, k.few)

pub overflow_mul-f : goal.overflow_mul-f
overflow_mul-f c =
    let k =
    known c.args.sides c.args.labels.now c.args.settings c.args.sets c.args.values.now c.args.pressures.now c.args.answers.now c.args.bytes.now c.args.floats.now c.args.words.now
    _ c.judge.ensures c.in-Ok.is in
    omega (arith, k.few)

pub overflow_add-f : goal.overflow_add-f
overflow_add-f c =
    let k =
    known c.args.sides c.args.labels.now c.args.settings c.args.sets c.args.values.now c.args.pressures.now c.args.answers.now c.args.bytes.now c.args.floats.now c.args.words.now
    _ c.judge.ensures c.in-Ok.is in
    omega (arith, k.few)

pub slice_bounds-work-end : goal.slice_bounds-work-end
slice_bounds-work-end c =
    let k =
    known c.args.sides c.args.labels.now c.args.settings c.args.sets c.args.values.now c.args.pressures.now c.args.answers.now c.args.bytes.now c.args.floats.now c.args.words.now
    _ c.judge.ensures c.in-Ok.is in
    omega (arith, k.bytes_room)

pub slice_bounds-work-end-in-Ok : goal.slice_bounds-work-end-in-Ok
slice_bounds-work-end-in-Ok c =
    let k =
    known c.args.sides c.args.labels.now c.args.settings c.args.sets c.args.values.now c.args.pressures.now c.args.answers.now c.args.bytes.now c.args.floats.now c.args.words.now
    _ c.judge.ensures c.in-Ok.is in
    omega (arith, k.floats_room)

pub slice_bounds-work-end-in-Ok-2 : goal.slice_bounds-work-end-in-Ok-2
slice_bounds-work-end-in-Ok-2 c =
    let k =
    known c.args.sides c.args.labels.now c.args.settings c.args.sets c.args.values.now c.args.pressures.now c.args.answers.now c.args.bytes.now c.args.floats.now c.args.words.now
    _ c.judge.ensures c.in-Ok.is in
    omega (arith, k.words_room)

pub work-answer-requires : goal.work-answer-requires
work-answer-requires c =
    let k =
    known c.args.sides c.args.labels.now c.args.settings c.args.sets c.args.values.now c.args.pressures.now c.args.answers.now c.args.bytes.now c.args.floats.now c.args.words.now
    _ c.judge.ensures c.in-Ok.is in
    checked _ _ _ _ _ _ _ _ _ _ k

pub clear-requires : goal.clear-requires
clear-requires c =
    let k =
    known c.args.sides c.args.labels.now c.args.settings c.args.sets c.args.values.now c.args.pressures.now c.args.answers.now c.args.bytes.now c.args.floats.now c.args.words.now
    _ c.judge.ensures c.in-Ok.is in
    clear_asked _ _ _ _ _ _ _ _ _ _ k c.work-answer.new.bytes c.work-answer.new.floats c.work-answer.new.words c.work-answer.auto.bytes c.work-answer.auto.floats c.work-answer.auto.words

pub returns-in-Err : goal.returns-in-Err
returns-in-Err c = refused_is _ _ _ _ _ _ _ _ _ _ _ _ _ c.judge.ensures c.in-Err.is c.from.ensures

pub shape_of-bytes : goal.shape_of-bytes
shape_of-bytes c = c.clear.auto.bytes ∙ same_len_mid 0 (2 * length c.args.labels.now + 16 - 0) c.args.bytes.now c.work-answer.new.bytes c.work-answer.auto.bytes

pub shape_of-floats : goal.shape_of-floats
shape_of-floats c = c.clear.auto.floats ∙ same_len_mid 0 (8 * length c.args.labels.now + 64 - 0) c.args.floats.now c.work-answer.new.floats c.work-answer.auto.floats

pub shape_of-words : goal.shape_of-words
shape_of-words c = c.clear.auto.words ∙ same_len_mid 0 (2 * length c.args.labels.now - 0) c.args.words.now c.work-answer.new.words c.work-answer.auto.words

pub returns-in-Ok : goal.returns-in-Ok
returns-in-Ok c =
    let k =
    known c.args.sides c.args.labels.now c.args.settings c.args.sets c.args.values.now c.args.pressures.now c.args.answers.now c.args.bytes.now c.args.floats.now c.args.words.now
    _ c.judge.ensures c.in-Ok.is in
    solved_is _ _ _ _ _ _ _ _ _ _ k c.work-answer.new.bytes c.work-answer.new.floats c.work-answer.new.words c.work-answer.auto.bytes c.work-answer.auto.floats c.work-answer.auto.words _ _ _ _ _ _ c.work-answer.ensures c.clear.ensures.bytes_after c.clear.ensures.floats_after c.clear.ensures.words_after
