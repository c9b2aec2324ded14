-- `old_write::write_old` meets its contract: refused, or put. Assumes nothing.
use Rattle.old_write.proofs.WriteLaws.{writers}
use Rattle.old_write.proofs.write_old.Goals as goal

pub put_old_session-count-requires : goal.put_old_session-count-requires
put_old_session-count-requires c = search writers

pub returns-in-Err : goal.returns-in-Err
returns-in-Err c = search writers

pub returns-in-Ok : goal.returns-in-Ok
returns-in-Ok c = search writers
