use mathlib.Core.Path.{refl, ◌∙◌}
use borrow.Author.Rules.{rules}
use Rattle.many.proofs.ManyWorking.{search_room, count_fit, prepare_asked, cast_ready, worked_refused, worked_sets}
use Rattle.many.proofs.work.Goals as goal

pub distances-walked-requires : goal.distances-walked-requires
distances-walked-requires c = search_room c.requires _ refl

pub interior-requires : goal.interior-requires
interior-requires c = count_fit c.requires

pub prepare-plan-requires : goal.prepare-plan-requires
prepare-plan-requires c = prepare_asked c.requires _ c.distances-walked.ensures.sealed_is c.in-None.is c.distances-walked.new.room c.distances-walked.auto.room

pub all_sets-requires : goal.all_sets-requires
all_sets-requires c = record {
  cast_ready = cast_ready c.requires _ c.distances-walked.ensures.sealed_is c.in-None.is _ _ c.interior.ensures c.distances-walked.ensures.depth_is _ _ _ c.prepare-plan.ensures;
  sets_asked = c.requires.sets_asked;
}

pub returns-in-Some : goal.returns-in-Some
returns-in-Some c = worked_refused _ _ _ _ _ _ _ _ _ c.distances-walked.ensures.sealed_is _ c.in-Some.is c.from.ensures

pub shape_of-words-in-None : goal.shape_of-words-in-None
shape_of-words-in-None c = c.prepare-plan.auto.words ∙ c.distances-walked.auto.room

pub returns-in-None : goal.returns-in-None
returns-in-None c = worked_sets _ _ _ _ _ _ _ _ _ c.distances-walked.ensures.sealed_is _ _ c.in-None.is (search rules) c.all_sets.ensures
