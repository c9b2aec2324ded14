-- `rooms::clear_front` meets its contract: after i turns i elements are z. Assumes nothing.
use Rattle.rooms.proofs.Clears.{clears}
use Rattle.rooms.proofs.clear_front.Goals as goal

pub loop-i-init : goal.loop-i-init
loop-i-init g c = search clears

pub loop-i-preserved : goal.loop-i-preserved
loop-i-preserved g c = search clears

pub returns : goal.returns
returns g c = search clears
