-- `signed_numbers::times` meets its contract. Assumes nothing.
use Prim.Native.Nat.{◌^◌, ◌<◌}
use native.Mathlib.Omega.{arith}
use borrow.Author.Rules.{rules}
use lib.IntN.{pos}
use mir.Syntax.{w64}
use mir.Val.{SFits}
use mir.Facts.{to_z-of_z}
use Rattle.laws.specs.Whole.{◌*ᶻ◌}
use Rattle.signed_numbers.proofs.Laws.{product_fits}
use Rattle.signed_numbers.proofs.times.Goals as goal

pub returns : goal.returns
unfolding ◌*ᶻ◌
returns c =
    let f = product_fits c.args.d c.args.a c.requires.0 c.requires.1 in
    let k : SFits w64 (pos c.args.d) = record { sfits = omega (arith, c.requires.0) } in
    rw (c.from.ensures, to_z-of_z k) (search rules)
