-- `session_read::sizes::body_fits` meets its contract. Assumes nothing.
use Rattle.session_read.proofs.SizeLaws.{sizes}
use Rattle.session_read.proofs.sizes.body_fits.Goals as goal

pub returns : goal.returns
returns c = search sizes
