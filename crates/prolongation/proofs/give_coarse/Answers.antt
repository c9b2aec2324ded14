-- `prolongation::give_coarse` meets its contract: the row is in the box where its first cell is. Assumes nothing.
use Rattle.transfer.specs.Rows.{two}
use Rattle.transfer.proofs.Sources.{source_as, spreads}
use Rattle.prolongation.proofs.give_coarse.Goals as goal

pub give_row-requires : goal.give_row-requires
give_row-requires c = search spreads

pub returns-then-at-sources : goal.returns-then-at-sources
returns-then-at-sources c = source_as _ _ _ _ _ _ _ _ _ _ _ c.place-at.ensures c.requires.0 two _ _ _ _ _ _ _ c.drawn_as-j.ensures.0 c.drawn_as-k.ensures.0 c.if-at-sources.true c.weight-far.ensures c.weight-near.ensures c.give_row.ensures

pub returns-else-at-sources : goal.returns-else-at-sources
returns-else-at-sources c = search spreads
