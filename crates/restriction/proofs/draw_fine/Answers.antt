-- `restriction::draw_fine` meets its contract: the row is in the box where its first cell is. Assumes nothing.
use Rattle.transfer.proofs.Sources.{spreads}
use Rattle.restriction.proofs.draw_fine.Goals as goal

pub draw_row-requires : goal.draw_row-requires
draw_row-requires c = search spreads

pub returns-then-at-sources : goal.returns-then-at-sources
returns-then-at-sources c = search spreads

pub returns-else-at-sources : goal.returns-else-at-sources
returns-else-at-sources c = search spreads
