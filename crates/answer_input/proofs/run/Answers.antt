-- `answer_input::run` meets its contract: just what was put is written. Assumes nothing.
use Rattle.answer_input.proofs.RunLaws.{run_of}
use Rattle.answer_input.proofs.run.Goals as goal

pub returns : goal.returns
returns g c = run_of _ _ _ _ _ c.answer_from-count.ensures c.write_all.ensures.bytes
