-- `session_write::write` meets its contract: refused, or put. Assumes nothing.
use Rattle.session_write.proofs.WriteLaws.{writers}
use Rattle.session_write.proofs.write.Goals as goal

pub put_session-count-requires : goal.put_session-count-requires
put_session-count-requires c = search writers

pub returns-in-Err : goal.returns-in-Err
returns-in-Err c = search writers

pub returns-in-Ok : goal.returns-in-Ok
returns-in-Ok c = search writers
