use mathlib.Core.Path.{◌∙◌}
use Rattle.solve.proofs.Working.{working, worked_refused, prepare_asked, run_asked, of_cast, worked_run}
use Rattle.solve.proofs.work.Goals as goal

pub distances-walked-requires : goal.distances-walked-requires
distances-walked-requires c = search working

pub prepare-plan-requires : goal.prepare-plan-requires
prepare-plan-requires c = prepare_asked c.requires _ c.distances-walked.ensures.sealed_is c.in-None.is c.distances-walked.new.room c.distances-walked.auto.room

pub run-requires : goal.run-requires
run-requires c = run_asked c.requires _ _ _ _ (of_cast _ _ _ _ c.interior.ensures c.distances-walked.ensures.depth_is) c.prepare-plan.ensures

pub returns-in-Some : goal.returns-in-Some
returns-in-Some c = worked_refused _ _ _ _ _ _ _ c.distances-walked.ensures.sealed_is _ c.in-Some.is c.from.ensures

pub shape_of-words-in-None : goal.shape_of-words-in-None
shape_of-words-in-None c = c.prepare-plan.auto.words ∙ c.distances-walked.auto.room

pub returns-in-None : goal.returns-in-None
returns-in-None c = worked_run _ _ _ _ _ _ _ c.distances-walked.ensures.sealed_is _ c.in-None.is c.run.ensures
