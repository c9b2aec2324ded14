-- `bands::band::around_other` meets its contract: no hit yet in the parents before q. Assumes nothing.
use Rattle.bands.proofs.Hits.{hits}
use Rattle.bands.proofs.band.around_other.Goals as goal

pub loop-q-init : goal.loop-q-init
loop-q-init c = search hits

pub returns-then-parent_has_other : goal.returns-then-parent_has_other
returns-then-parent_has_other c = search hits

pub loop-q-preserved : goal.loop-q-preserved
loop-q-preserved c = search hits
