-- `old_put::length::old_header_length` meets its contract. Assumes nothing.
use Rattle.old_put.proofs.PartLaws.{lengths}
use Rattle.old_put.proofs.length.old_header_length.Goals as goal

pub returns : goal.returns
returns c =
    let x = rw c.from.ensures at c.digits_of-x.ensures in
    let y = rw c.from-2.ensures at c.digits_of-y.ensures in
    let z = rw c.from-3.ensures at c.digits_of-z.ensures in
    let u = rw c.from-4.ensures at c.digits_of-u.ensures in
    search lengths
