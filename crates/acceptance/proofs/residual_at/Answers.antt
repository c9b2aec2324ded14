-- `acceptance::residual_at` meets its contract: by its four numbers. Assumes nothing.
use mathlib.Core.Path.{◌≡◌, ap, ◌∙◌}
use Prim.Native.Nat.{◌^◌, ◌*◌}
use native.Mathlib.Omega.{arith}
use lib.IntN.{pos, nat_abs}
use mir.Syntax.{w64}
use mir.Val.{SFits}
use mir.Facts.{to_z-of_z}
use Rattle.laws.specs.Whole.{◌+ᶻ◌, ◌-ᶻ◌, ◌*ᶻ◌}
use Rattle.method.specs.Cast.{field}
use Rattle.signed_numbers.proofs.Laws.{most_fits}
use Rattle.ticks.proofs.Laws.{residual_made, source_is, gives_residual}
use Rattle.acceptance.specs.Cells.{rounded_on}
use Rattle.acceptance.proofs.Laws.{pressure_is}
use Rattle.acceptance.proofs.residual_at.Goals as goal

pub returns : goal.returns
returns c =
    let s = c.args in
    let m = c.gather-a in
    let ps = rounded_on s.g s.labels.now s.values.now s.x.now in
    let source = source_is (field s.values.now s.c) c.from-source.result (record { sfits = c.from-arg-1.given }) c.from-source.ensures in
    let own : c.whole_at-own.result ≡ field ps s.c =
    pressure_is s.g s.labels.now s.values.now s.x.now s.c 0 c.whole_at-own.result c.requires.0.labelled c.requires.1.1 c.whole_at-own.ensures in
    let e : c.residual_of.result ≡ c.from-source.result +ᶻ m.result.sum -ᶻ pos m.result.d *ᶻ c.whole_at-own.result =
    gives_residual c.from-source.result m.result.sum c.whole_at-own.result c.residual_of.result m.result.d (record { sfits = c.from-source.type_inv })
    (most_fits m.result.sum (6 * 2 ^ 41) m.ensures.small (omega arith)) (record { sfits = c.whole_at-own.type_inv }) c.residual_of.ensures in
    let f : SFits w64 c.residual_of.result = record { sfits = c.residual_of.type_inv } in
    rw (to_z-of_z f)
    (residual_made s.g s.labels.now s.values.now ps s.c m.result c.from-source.result c.residual_of.result
    source.0 source.1 (omega (arith, ap nat_abs own, c.whole_at-own.ensures.small)) m.ensures
    (e ∙ ap (λ z. c.from-source.result +ᶻ m.result.sum -ᶻ pos m.result.d *ᶻ z) own))
