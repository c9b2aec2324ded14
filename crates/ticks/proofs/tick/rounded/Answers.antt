-- `tick::rounded` meets its contract, by where y lies to its whole part and a half. Assumes nothing.
use Rattle.std.proofs.Common.{refl}
use Rattle.ticks.proofs.TickNear.{nears, near_raised, near_neither}
use Rattle.ticks.proofs.tick.rounded.Goals as goal

pub truncating_f64_to_u64-q-requires : goal.truncating_f64_to_u64-q-requires
unfolding lib.Ieee.of_bits
truncating_f64_to_u64-q-requires c = search nears

pub int_to_float-half : goal.int_to_float-half
int_to_float-half c = search nears

pub raised-requires : goal.raised-requires
raised-requires c = search nears

pub returns-then-y-half : goal.returns-then-y-half
unfolding lib.Ieee.of_bits
returns-then-y-half c = near_raised c.args.y _ c.requires.y_value c.requires.beyond_value c.truncating_f64_to_u64-q.ensures _ _ refl c.if-y-half.true c.raised.ensures

pub tie_of-requires : goal.tie_of-requires
tie_of-requires c = search nears

pub returns : goal.returns
unfolding lib.Ieee.of_bits
returns c = near_neither c.args.y _ c.requires.y_value c.requires.beyond_value c.truncating_f64_to_u64-q.ensures _ _ refl c.if-y-half.false c.tie_of.ensures
