-- `cg_fields::entries::aim_entry` meets its contract: what is stored is what `direction_of` ensures. Assumes nothing.
use Rattle.cg_fields.proofs.Aims.{aim_entry_is}
use Rattle.cg_fields.proofs.entries.aim_entry.Goals as goal

pub returns : goal.returns
returns c = search (aim_entry_is)
