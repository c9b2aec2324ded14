-- `bands::band::parent_has_other` meets its contract: no hit yet in the children before t. Assumes nothing.
use Rattle.bands.proofs.Hits.{hits}
use Rattle.bands.proofs.band.parent_has_other.Goals as goal

pub is_outside-requires-clause-fit : goal.is_outside-requires-clause-fit
is_outside-requires-clause-fit c = search hits

pub returns-then-is_outside : goal.returns-then-is_outside
returns-then-is_outside c = search hits

pub parent_spot-k-requires-clause-begun : goal.parent_spot-k-requires-clause-begun
parent_spot-k-requires-clause-begun c = search hits

pub first_child-first-requires-clause-near : goal.first_child-first-requires-clause-near
first_child-first-requires-clause-near c = search hits

pub loop-t-init : goal.loop-t-init
loop-t-init c = search hits

pub is_other-requires-clause-near : goal.is_other-requires-clause-near
is_other-requires-clause-near c = search hits

pub returns-then-is_other : goal.returns-then-is_other
returns-then-is_other c = search hits

pub loop-t-preserved : goal.loop-t-preserved
loop-t-preserved c = search hits

pub returns : goal.returns
returns c = search hits
