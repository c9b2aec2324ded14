use mathlib.Core.Path.{refl}
use native.Mathlib.Omega.{arith}
use Rattle.method.specs.Cast.{cells}
use Rattle.grid.proofs.Laws.{small_two, small_three}
use Rattle.grid.proofs.place.cell_count.Goals as goal

pub overflow_mul-result : goal.overflow_mul-result
overflow_mul-result c = record { fits = omega (arith, small_two c.args.g.ny c.args.g.nz c.requires.ny_32 c.requires.nz_32) }

pub overflow_mul-result-2 : goal.overflow_mul-result-2
overflow_mul-result-2 c = record { fits = omega (arith, small_three c.args.g.nx c.args.g.ny c.args.g.nz c.requires.nx_32 c.requires.ny_32 c.requires.nz_32) }

pub returns : goal.returns
unfolding cells
returns c = (refl, small_three c.args.g.nx c.args.g.ny c.args.g.nz c.requires.nx_32 c.requires.ny_32 c.requires.nz_32)
