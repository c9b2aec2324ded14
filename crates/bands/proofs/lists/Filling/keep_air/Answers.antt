-- `bands::lists::Filling::keep_air` meets its contract. Assumes nothing.
use borrow.Author.Rules.{rules}
use Rattle.bands.proofs.Chosen.{swept_in, airs}
use Rattle.bands.proofs.lists.Filling.keep_air.Goals as goal

pub overflow_add-self : goal.overflow_add-self
overflow_add-self c =
    let a = c.args in
    let h = swept_in a.band a.g a.labels.now a.self.now.next c.wave_list-swept.result a.self.now.words.now c.wave_list-swept.new.words c.wave_list-swept.ensures c.requires.room in
    search rules

pub keep_rest-requires-clause-room : goal.keep_rest-requires-clause-room
keep_rest-requires-clause-room c = search airs

pub returns : goal.returns
returns c = search airs
