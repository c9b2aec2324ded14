-- The measure of the cycle of calls {coarse_correction, cycle} is twice the levels left, and one less in the correction.
use Rattle.std.proofs.Common.{◌+◌, ◌-◌}
use Rattle.cycle.proofs.+coarse_correction_cycle.Given as goal

abbrev pub decreases-coarse_correction : goal.decreases-coarse_correction
decreases-coarse_correction l = (l.count - l.k) + (l.count - l.k) - 1

abbrev pub decreases-cycle : goal.decreases-cycle
decreases-cycle l = (l.count - l.k) + (l.count - l.k)
