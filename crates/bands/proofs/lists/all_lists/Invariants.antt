-- `bands::lists::all_lists` meets its contract: the lists of the levels below k stand in the room. Assumes nothing.
use mathlib.Core.Path.{◌≡◌}
use Rattle.levels.specs.Levels.{base}
use Rattle.bands.specs.AllLists.{base_labels}
use Rattle.bands.proofs.Gathered.{Gathering}
use Rattle.bands.proofs.lists.all_lists.Given as goal

abbrev pub invariant-loop-k : goal.invariant-loop-k
invariant-loop-k l =
    (l.filling.words.ghost_name ≡ l.initial.filling.words.ghost_name)
    × Gathering (base l.l) (base_labels l.l l.bytes) l.count l.initial.filling.words.now l.k l.lists l.filling.next l.filling.words.now
