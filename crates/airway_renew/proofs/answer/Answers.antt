-- `airway_renew::answer` meets its contract: what `renew` writes, with the room of the greatest casts. Assumes nothing.
use borrow.Author.Rules.{rules}
use Rattle.renew.proofs.RenewLaws.{kept_room, renew_front}
use Rattle.airway_renew.proofs.answer.Goals as goal

pub renew-requires : goal.renew-requires
renew-requires c = search (rules, kept_room)

pub returns : goal.returns
returns c = search (rules, renew_front)
