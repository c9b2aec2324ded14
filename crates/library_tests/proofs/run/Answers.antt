-- `library_tests::run` meets its contract, by the contracts of its calls. Assumes nothing.
use mathlib.Core.Path.{refl}
use lib.ListN.{length}
use Rattle.library_tests.proofs.Laws.{running, run_ready, run_end, run_is}
use Rattle.library_tests.proofs.run.Goals as goal

pub all_labels-requires : goal.all_labels-requires
all_labels-requires c = search running

pub all_lists-s-requires : goal.all_lists-s-requires
all_lists-s-requires c = search running

pub cycles-requires : goal.cycles-requires
cycles-requires c =
    let a = c.args in
    record {
      ready = run_ready a.g a.count a.labels.now a.bytes.now a.words.now (length a.room.now) c.requires _ c.levels_of-l.ensures _ c.all_labels.ensures c.all_labels.auto.bytes _ _ c.all_lists-s.auto.words c.all_lists-s.ensures c.end_in_zero.new.room c.end_in_zero.auto.room;
      ended = run_end a.g a.count a.labels.now a.bytes.now a.words.now (length a.room.now) c.requires _ c.levels_of-l.ensures a.room.now c.end_in_zero.new.room refl c.end_in_zero.ensures;
    }

pub returns : goal.returns
returns c =
    let a = c.args in
    run_is a.g a.count a.labels.now a.bytes.now a.words.now (length a.room.now) c.requires _ c.levels_of-l.ensures _ c.all_labels.ensures c.all_labels.auto.bytes a.room.now c.end_in_zero.new.room _ refl c.end_in_zero.ensures c.cycles.ensures
