-- `grid::entry::entry_of` meets its contract, face by face. Assumes nothing.
use native.Mathlib.Omega.{arith}
use Rattle.grid.proofs.Steps.{cells_most}
use Rattle.grid.proofs.EntryParts.{entry_is}
use Rattle.grid.proofs.entry.entry_of.Goals as goal

pub overflow_cast-result : goal.overflow_cast-result
overflow_cast-result c = omega (arith, cells_most c.args.g c.requires.fit)

pub overflow_add-result : goal.overflow_add-result
overflow_add-result c = omega (arith, cells_most c.args.g c.requires.fit)

pub overflow_add-result-2 : goal.overflow_add-result-2
overflow_add-result-2 c = omega (arith, cells_most c.args.g c.requires.fit)

pub overflow_add-result-3 : goal.overflow_add-result-3
overflow_add-result-3 c = omega (arith, cells_most c.args.g c.requires.fit)

pub overflow_add-result-4 : goal.overflow_add-result-4
overflow_add-result-4 c = omega (arith, cells_most c.args.g c.requires.fit)

pub overflow_add-result-5 : goal.overflow_add-result-5
overflow_add-result-5 c = omega (arith, cells_most c.args.g c.requires.fit)

pub overflow_add-result-6 : goal.overflow_add-result-6
overflow_add-result-6 c = omega (arith, cells_most c.args.g c.requires.fit)

pub returns : goal.returns
returns c =
    entry_is c.args.g c.args.labels.now c.neighbours-near.result c.args.c c.neighbours-near.ensures
    c.face_at-west.ensures.value
    c.face_at-east.ensures.value
    c.face_at-south.ensures.value
    c.face_at-north.ensures.value
    c.face_at-below.ensures.value
    c.face_at-above.ensures.value
