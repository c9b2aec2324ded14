-- `acceptance::test` meets its contract: no tick before cell c is refused, and the worst among the first c cells is within
-- the tolerance. Assumes nothing.
use Prim.Native.Nat.{◌≤◌, ◌<◌}
use native.Mathlib.Omega.{arith}
use Rattle.theory.proofs.Firsts.{none_more}
use Rattle.acceptance.proofs.Laws.{turns, refused_fails, beyond_fails, within_passes}
use Rattle.acceptance.proofs.test.Goals as goal

pub loop-c-init : goal.loop-c-init
loop-c-init c = search turns

pub returns-then-refused_at : goal.returns-then-refused_at
returns-then-refused_at c = search (refused_fails)

pub returns-then-tolerance-w : goal.returns-then-tolerance-w
returns-then-tolerance-w c = let h : c.args.settings.tolerance < c.worst_at-w.result = omega arith in search (beyond_fails)

pub loop-c-preserved : goal.loop-c-preserved
loop-c-preserved c =
    let r = c.refused_at in
    (search turns, none_more _ _ r.result (search turns) r.ensures (search turns), search turns)

pub returns : goal.returns
returns c = let h : c.loop-c.w ≤ c.args.settings.tolerance = omega arith in search (within_passes)
