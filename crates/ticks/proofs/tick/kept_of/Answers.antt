-- `tick::kept_of` meets its contract, by the sign. Assumes nothing.
use Rattle.std.proofs.Common.{arith, rules}
use Rattle.ticks.proofs.TickLaws.{above_kept, below_kept, kept_refused}
use Rattle.ticks.proofs.tick.kept_of.Goals as goal

pub returns-then-n-gt-FURTHEST : goal.returns-then-n-gt-FURTHEST
returns-then-n-gt-FURTHEST c = kept_refused _ _ (omega arith)

pub returns-then-negative : goal.returns-then-negative
returns-then-negative c = below_kept _ _ (search rules) (omega arith)

pub returns : goal.returns
returns c = above_kept _ _ (search rules) (omega arith)
