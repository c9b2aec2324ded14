-- `smooth::stencils::jacobi` meets its contract, by the contracts of the two that it calls. Assumes nothing.
use borrow.Author.Rules.{rules}
use Rattle.smooth.proofs.StencilLaws.{jacobi_entries_is}
use Rattle.smooth.proofs.stencils.jacobi.Goals as goal

pub returns-clause-room_after : goal.returns-clause-room_after
returns-clause-room_after c = λ g ls a q. search (rules, jacobi_entries_is)
