-- `prolongation::give_pair` meets its contract: by the two cells. Assumes nothing.
use native.Mathlib.Omega.{arith}
use Rattle.transfer.proofs.RowLaws.{pair_is}
use Rattle.prolongation.proofs.give_pair.Goals as goal

pub returns : goal.returns
returns c =
    let a = c.args in
    let r = a.rows in
    pair_is r.from r.cells r.to a.j r.far r.near a.room.now _ _ (omega arith) (omega arith) (omega arith) c.add_pair.ensures c.add_pair-2.ensures
