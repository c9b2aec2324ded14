-- `prolongation::sum_row` meets its contract: zeros, then the four coarse rows. Assumes nothing.
use Rattle.transfer.proofs.Stretch.{lent_long, zeros_home}
use Rattle.transfer.proofs.Sums.{fine_at, given_row, sums}
use Rattle.prolongation.proofs.sum_row.Goals as goal

pub slice_bounds-clear_front-count : goal.slice_bounds-clear_front-count
slice_bounds-clear_front-count c =
    let inside = fine_at _ _ _ _ _ _ c.requires.0 c.requires.1 in
    search sums

pub slice_bounds-clear_front-start : goal.slice_bounds-clear_front-start
slice_bounds-clear_front-start c =
    let inside = fine_at _ _ _ _ _ _ c.requires.0 c.requires.1 in
    search sums

pub clear_front-requires : goal.clear_front-requires
clear_front-requires c = search (sums, lent_long)

pub give_all-requires : goal.give_all-requires
give_all-requires c = search sums

pub returns : goal.returns
returns c = given_row _ _ _ _ _ _ c.requires.0 c.requires.1 _ _ (search (sums, zeros_home)) c.give_all.ensures
