-- `cg_fields::direction_of` meets its contract, by the number of rounds done. Assumes nothing.
use Rattle.cg_fields.proofs.Turns.{first_round, later_round}
use Rattle.cg_fields.proofs.direction_of.Goals as goal

pub returns-then-first : goal.returns-then-first
returns-then-first c = search (first_round)

pub returns-else-first : goal.returns-else-first
returns-else-first c = search (later_round)
