-- `old_put::put_lines` meets its contract: two parts. Assumes nothing.
use Rattle.old_put.proofs.PartLaws.{both}
use Rattle.old_put.proofs.put_lines.Goals as goal

pub put_size-requires : goal.put_size-requires
put_size-requires c = search both

pub put_line-requires : goal.put_line-requires
put_line-requires c = rw c.from.ensures (search both)

pub returns : goal.returns
returns c = let p = rw c.from.ensures at c.put_line.ensures in search both
