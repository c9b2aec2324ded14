-- `answer_print::put_worst` meets its contract: three parts. Assumes nothing.
use Rattle.answer_print.proofs.ShowLaws.{worsts}
use Rattle.answer_print.proofs.put_worst.Goals as goal

pub put_line-requires : goal.put_line-requires
put_line-requires c = rw c.from.ensures (search worsts)

pub put_line-requires-2 : goal.put_line-requires-2
put_line-requires-2 c = let p = rw c.from.ensures at c.put_line.ensures in rw c.from-2.ensures (search worsts)

pub put_whole-requires : goal.put_whole-requires
put_whole-requires c =
    let p = rw c.from.ensures at c.put_line.ensures in
    let q = rw c.from-2.ensures at c.put_line-2.ensures in
    search worsts

pub returns : goal.returns
returns c =
    let p = rw c.from.ensures at c.put_line.ensures in
    let q = rw c.from-2.ensures at c.put_line-2.ensures in
    search worsts
