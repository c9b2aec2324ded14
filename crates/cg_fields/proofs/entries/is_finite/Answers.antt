-- `cg_fields::entries::is_finite` meets its contract: the library's test is document 01's. Assumes nothing.
use mathlib.Core.Path.{◌∙◌}
use Rattle.cg_fields.proofs.Aims.{finite_is}
use Rattle.cg_fields.proofs.entries.is_finite.Goals as goal

pub returns : goal.returns
returns c = c.is_finite.ensures.value ∙ finite_is c.args.x
