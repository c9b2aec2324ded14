-- `levels::labels::with_child` meets its contract, by its tests. Assumes nothing.
use borrow.Author.Tests.{eq-eqb, ne_eqb}
use Rattle.laws.proofs.Loops.{branches}
use Rattle.levels.specs.Kin.{outrank}
use Rattle.levels.proofs.labels.with_child.Goals as goal

pub returns-then-so_far-eq1 : goal.returns-then-so_far-eq1
unfolding outrank
returns-then-so_far-eq1 c = search branches

pub returns-then-label-eq1 : goal.returns-then-label-eq1
unfolding outrank
returns-then-label-eq1 c = search branches

pub returns-then-label-eq0 : goal.returns-then-label-eq0
unfolding outrank
returns-then-label-eq0 c = search (eq-eqb, ne_eqb)

pub returns : goal.returns
unfolding outrank
returns c = search branches
