-- `bands::lists::wave_list` meets its contract. Assumes nothing.
use borrow.Author.Rules.{rules}
use Rattle.bands.specs.Lists.{list_of, Listed}
use Rattle.bands.proofs.Chosen.{comes_back, on_lists}
use Rattle.bands.proofs.lists.wave_list.Goals as goal

pub keep_waves-requires-clause-room : goal.keep_waves-requires-clause-room
keep_waves-requires-clause-room c = search on_lists

pub returns : goal.returns
returns c =
    let a = c.args in
    comes_back {y = c.keep_waves.new.self.words.now} (Listed a.words.now a.at (list_of a.band a.g a.labels.now) _) c.keep_waves.ensures.0 (search on_lists) (search rules)
