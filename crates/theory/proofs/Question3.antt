-- QUESTION 3: how far the pressures of an accepted answer are from any exact solution. Assumes nothing.
use Rattle.method.specs.Cast.{field}
use Rattle.method.specs.Solving.{solving}
use Rattle.theory.specs.Exact.{bound, Bounds}
use Rattle.theory.proofs.OnCast.{bound_on_cast}
use Rattle.theory.proofs.Accepted.{fit_sides, sized, came_about, accepted_is}

-- |m·pressure − y| ≤ m · worst · interior · depth, as reported
pub question_3 : Bounds bound
question_3 a z m l y sol c e =
    let ok = accepted_is a z in
    let checked = (came_about a z).checked in
    let w = ok.depth_all c e in
    rw ok.interior_is
    (bound_on_cast a.cast (fit_sides a checked) (sized a checked) (field (solving a).pressures) y m sol ok.at_openings
    (solving a).answer.worst (solving a).answer.depth ok.worst_all w.1.walk w.2 e)
