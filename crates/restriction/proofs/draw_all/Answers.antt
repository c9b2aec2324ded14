-- `restriction::draw_all` meets its contract: after r turns the first r fine rows are added. Assumes nothing.
use native.Mathlib.Omega.{arith}
use Rattle.laws.proofs.Loops.{up_end}
use Rattle.transfer.proofs.Sources.{spreads}
use Rattle.restriction.proofs.draw_all.Goals as goal

pub loop-r-init : goal.loop-r-init
loop-r-init c = search spreads

pub loop-r-preserved : goal.loop-r-preserved
loop-r-preserved c = search spreads

-- written out: sixteen turns are asked, and the edit that leaves one out is refused here for that
pub returns : goal.returns
returns c = up_end 16 c.loop-r.invariant (omega arith) (omega arith)
