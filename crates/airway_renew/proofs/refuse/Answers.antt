-- `airway_renew::refuse` meets its contract: just the lines are written. Assumes nothing.
use borrow.Author.Rules.{rules}
use Rattle.airway_renew.proofs.Laws.{put_part}
use Rattle.airway_renew.proofs.refuse.Goals as goal

pub slice_bounds-write_all-end : goal.slice_bounds-write_all-end
slice_bounds-write_all-end c = search (rules, put_part)
