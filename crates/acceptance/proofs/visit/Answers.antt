-- `acceptance::visit` meets its contract: by the label. Assumes nothing.
use Prim.Native.Nat.{◌≤◌, ◌<◌}
use native.Mathlib.Omega.{arith}
use borrow.Author.Rules.{rules}
use lib.ListN.{length}
use Rattle.acceptance.proofs.Laws.{pressed}
use Rattle.acceptance.proofs.visit.Goals as goal

pub whole_at-requires : goal.whole_at-requires
whole_at-requires c =
    let k : c.label_at-label.result < 2 = omega arith in
    let h : c.args.j < length c.args.labels.now = search pressed in
    search rules

pub returns-then-no_wall : goal.returns-then-no_wall
returns-then-no_wall c = let k : c.label_at-label.result < 2 = omega arith in search pressed

pub returns-else-no_wall : goal.returns-else-no_wall
returns-else-no_wall c = let k : 2 ≤ c.label_at-label.result = omega arith in search pressed
