-- `session_bytes::put_three` meets its contract: three parts. Assumes nothing.
use Rattle.session_bytes.proofs.PartLaws.{threes, three_third}
use Rattle.session_bytes.proofs.put_three.Goals as goal

pub put_line-requires : goal.put_line-requires
put_line-requires c = rw c.from.ensures (search threes)

pub put_line-requires-2 : goal.put_line-requires-2
put_line-requires-2 c = let p = rw c.from.ensures at c.put_line.ensures in rw c.from-2.ensures (search threes)

pub put_line-requires-3 : goal.put_line-requires-3
put_line-requires-3 c =
    let p = rw c.from.ensures at c.put_line.ensures in
    let q = rw c.from-2.ensures at c.put_line-2.ensures in
    rw c.from-3.ensures (search three_third)

pub returns : goal.returns
returns c =
    let p = rw c.from.ensures at c.put_line.ensures in
    let q = rw c.from-2.ensures at c.put_line-2.ensures in
    let r = rw c.from-3.ensures at c.put_line-3.ensures in
    search threes
