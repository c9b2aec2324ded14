-- `levels::sides::levels_of` meets its contract: the levels below level-index are written down, and next is level level-index. Assumes
-- nothing.
use Rattle.levels.proofs.Starts.{Filling}
use Rattle.levels.proofs.sides.levels_of.Given as goal

abbrev pub invariant-loop-level : goal.invariant-loop-level
invariant-loop-level l = Filling l.fn.g l.initial.next l.level-index l.level-items l.next
