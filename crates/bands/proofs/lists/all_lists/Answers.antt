-- `bands::lists::all_lists` meets its contract: the lists of the levels below k stand in the room. Assumes nothing.
use borrow.Author.Rules.{rules}
use Rattle.levels.specs.Levels.{base}
use Rattle.bands.specs.AllLists.{base_labels, AllListed}
use Rattle.bands.proofs.Chosen.{comes_back}
use Rattle.bands.proofs.Gathered.{gatherings}
use Rattle.bands.proofs.lists.all_lists.Goals as goal

pub loop-k-init : goal.loop-k-init
loop-k-init c = search gatherings

pub keep_level-requires : goal.keep_level-requires
keep_level-requires c = search gatherings

pub loop-k-preserved : goal.loop-k-preserved
loop-k-preserved c = search gatherings

pub returns : goal.returns
returns c =
    let a = c.args in
    let listed = AllListed (base a.l) (base_labels a.l a.bytes.now) a.count a.words.now c.loop-k.lists in
    comes_back {y = c.loop-k.filling.words.now} listed c.loop-k.invariant.0 (search gatherings) (search rules)
