-- `old_read::judge::judge_content` meets its contract. Assumes nothing.
use Rattle.old_read.proofs.JudgeLaws.{contents}
use Rattle.old_read.proofs.judge.judge_content.Goals as goal

pub cell_count-n-requires : goal.cell_count-n-requires
cell_count-n-requires c = search contents

pub returns : goal.returns
returns c = search contents
