-- `session_read::judge::judge_rest` meets its contract. Assumes nothing.
use Rattle.session_read.proofs.JudgeLaws.{rests}
use Rattle.session_read.proofs.judge.judge_rest.Goals as goal

pub returns : goal.returns
returns c = search rests
