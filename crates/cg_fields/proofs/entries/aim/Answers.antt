-- `cg_fields::entries::aim` meets its contract, by whether beta is finite. Assumes nothing.
use Rattle.cg_fields.proofs.Aims.{finite_from}
use Rattle.cg_fields.proofs.entries.aim.Goals as goal

-- written out: an edit that turns the test is refused here, since beta is then not finite
pub aim_all-requires-clause-beta_value : goal.aim_all-requires-clause-beta_value
aim_all-requires-clause-beta_value c = search (finite_from)
