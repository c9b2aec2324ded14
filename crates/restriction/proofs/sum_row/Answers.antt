-- `restriction::sum_row` meets its contract: zeros, then the sixteen fine rows. Assumes nothing.
use Rattle.transfer.proofs.Stretch.{lent_long, zeros_home}
use Rattle.transfer.proofs.Sums.{coarse_at, drawn_row, sums}
use Rattle.restriction.proofs.sum_row.Goals as goal

pub slice_bounds-clear_front-count : goal.slice_bounds-clear_front-count
slice_bounds-clear_front-count c =
    let inside = coarse_at _ _ _ _ _ _ c.requires.0 c.requires.1 in
    search sums

pub slice_bounds-clear_front-start : goal.slice_bounds-clear_front-start
slice_bounds-clear_front-start c =
    let inside = coarse_at _ _ _ _ _ _ c.requires.0 c.requires.1 in
    search sums

pub clear_front-requires : goal.clear_front-requires
clear_front-requires c = search (sums, lent_long)

pub draw_all-requires : goal.draw_all-requires
draw_all-requires c = search sums

pub returns : goal.returns
returns c = drawn_row _ _ _ _ _ _ c.requires.0 c.requires.1 _ _ (search (sums, zeros_home)) c.draw_all.ensures
