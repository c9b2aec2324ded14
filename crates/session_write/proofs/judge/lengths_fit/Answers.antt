-- `session_write::judge::lengths_fit` meets its contract: test by test. Assumes nothing.
use Rattle.session_write.proofs.WriteLaws.{lengths}
use Rattle.session_write.proofs.judge.lengths_fit.Goals as goal

pub returns-then-labels-n : goal.returns-then-labels-n
returns-then-labels-n c = search lengths

pub returns-then-values-n : goal.returns-then-values-n
returns-then-values-n c = search lengths

pub returns : goal.returns
returns c = search lengths
