-- `ticks::residual_of` meets its contract: no sum, product or difference leaves i64. Assumes nothing.
use Rattle.std.proofs.Common.{◌≡◌, ◌+◌, ◌^◌, ◌<◌, pos, nat_abs}
use Rattle.laws.specs.Whole.{◌+ᶻ◌, ◌*ᶻ◌}
use Rattle.signed_numbers.proofs.Laws.{wholes}
use Rattle.ticks.proofs.Laws.{residual_fits}
use Rattle.ticks.proofs.residual_of.Goals as goal

pub minus-requires : goal.minus-requires
minus-requires c =
    let e : c.plus.result ≡ c.args.source +ᶻ c.args.sum = search wholes in
    let f : c.times.result ≡ pos c.args.d *ᶻ c.args.own = search wholes in
    let h : nat_abs c.plus.result + nat_abs c.times.result < 2 ^ 63 = residual_fits c.args.source c.args.sum c.args.own c.args.d c.requires e f in
    search wholes
