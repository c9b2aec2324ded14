-- `cg_fields::start` meets its contract, by what the two calls ensure. Assumes nothing.
use borrow.Author.Rules.{rules}
use Rattle.rooms.proofs.Clears.{zeroed_front}
use Rattle.cg_fields.proofs.Made.{start_is}
use Rattle.cg_fields.proofs.start.Goals as goal

pub returns : goal.returns
returns c = search (rules, zeroed_front, start_is)
