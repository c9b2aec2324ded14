-- `cg_fields::entries::apply_entry` meets its contract: what is stored is what `applied_entry` ensures of every cast.
-- Assumes nothing.
use Rattle.cg_fields.proofs.Calm.{apply_entry_is}
use Rattle.cg_fields.proofs.entries.apply_entry.Goals as goal

pub returns-clause-room_after : goal.returns-clause-room_after
returns-clause-room_after c =
    let a = c.args in
    λ g ls h. apply_entry_is g ls a.lattice.n a.lattice.nx a.lattice.plane a.e h a.room.now (c.applied_entry-a.ensures g ls h)
