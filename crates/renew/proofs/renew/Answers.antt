-- `renew::renew` meets its contract: refused by the reader, or written. Assumes nothing.
use Rattle.renew.proofs.RenewLaws.{renewing}
use Rattle.renew.proofs.renew.Goals as goal

pub returns-then-answer-ne0 : goal.returns-then-answer-ne0
returns-then-answer-ne0 c = search renewing

pub write_new-requires-clause-old_is_read : goal.write_new-requires-clause-old_is_read
write_new-requires-clause-old_is_read c = search renewing
