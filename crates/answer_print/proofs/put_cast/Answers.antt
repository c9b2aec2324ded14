-- `answer_print::put_cast` meets its contract: two parts. Assumes nothing.
use Rattle.answer_print.proofs.ShowLaws.{casts}
use Rattle.answer_print.proofs.put_cast.Goals as goal

pub put_line-requires : goal.put_line-requires
put_line-requires c = rw c.from.ensures (search casts)

pub put_line-requires-2 : goal.put_line-requires-2
put_line-requires-2 c = let p = rw c.from.ensures at c.put_line.ensures in rw c.from-2.ensures (search casts)

pub returns : goal.returns
returns c =
    let p = rw c.from.ensures at c.put_line.ensures in
    let q = rw c.from-2.ensures at c.put_line-2.ensures in
    search casts
