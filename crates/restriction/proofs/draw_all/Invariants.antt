-- `restriction::draw_all` meets its contract: after r turns the first r fine rows are added. Assumes nothing.
use Rattle.laws.proofs.Loops.{Up}
use Rattle.transfer.specs.Rows.{fine_step}
use Rattle.restriction.proofs.draw_all.Given as goal

abbrev pub invariant-loop-r : goal.invariant-loop-r
invariant-loop-r l = Up (fine_step l.sources.sides l.sources.from l.sources.to l.sources.sums l.sources.along_y l.sources.along_z) l.initial.room l.r l.room
