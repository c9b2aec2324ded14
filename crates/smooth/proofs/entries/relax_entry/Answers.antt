-- `smooth::entries::relax_entry` meets its contract, by what `gather` ensures of every cast. Assumes nothing.
use Rattle.smooth.proofs.EntryLaws.{relax_is}
use Rattle.smooth.proofs.entries.relax_entry.Goals as goal

pub returns-clause-room_after : goal.returns-clause-room_after
returns-clause-room_after c =
    let a = c.args in
    λ g ls h. relax_is g ls a.lattice.n a.lattice.nx a.lattice.plane a.e h a.room.now (c.gather-sum.ensures g ls h)
