-- `old_put::put_size` meets its contract: three parts. Assumes nothing.
use Rattle.old_put.proofs.PartLaws.{sizes}
use Rattle.old_put.proofs.put_size.Goals as goal

pub put_number-requires : goal.put_number-requires
put_number-requires c = rw c.from.ensures (search sizes)

pub put_number-requires-2 : goal.put_number-requires-2
put_number-requires-2 c = let p = rw c.from.ensures at c.put_number.ensures in rw c.from-2.ensures (search sizes)

pub put_number-requires-3 : goal.put_number-requires-3
put_number-requires-3 c =
    let p = rw c.from.ensures at c.put_number.ensures in
    let q = rw c.from-2.ensures at c.put_number-2.ensures in
    rw c.from-3.ensures (search sizes)

pub returns : goal.returns
returns c =
    let p = rw c.from.ensures at c.put_number.ensures in
    let q = rw c.from-2.ensures at c.put_number-2.ensures in
    let r = rw c.from-3.ensures at c.put_number-3.ensures in
    search sizes
