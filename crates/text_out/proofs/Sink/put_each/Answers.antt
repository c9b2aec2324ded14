-- `text_out::Sink::put_each` meets its contract: so many items are put. Assumes nothing.
use Rattle.text_out.proofs.EachLaws.{eaches}
use Rattle.text_out.proofs.Sink.put_each.Goals as goal

pub loop-item-init : goal.loop-item-init
loop-item-init g c = search eaches

pub put-requires : goal.put-requires
put-requires g c = search eaches

pub loop-item-preserved : goal.loop-item-preserved
loop-item-preserved g c = search eaches

pub returns-clause-puts : goal.returns-clause-puts
returns-clause-puts g c = search eaches

pub returns-clause-few : goal.returns-clause-few
returns-clause-few g c = search eaches
