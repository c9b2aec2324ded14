-- `right_side::level_at` meets its contract, by the label. Assumes nothing.
use Prim.Native.Nat.{◌≤◌, ◌^◌}
use mathlib.Core.Path.{◌≡◌, ap, ◌∙◌}
use native.Mathlib.Omega.{arith}
use borrow.Author.Rules.{rules}
use lib.IntN.{ℤ, nat_abs}
use mir.Syntax.{w32, w64}
use mir.Val.{SFits}
use mir.Facts.{to_z-of_z}
use Rattle.laws.specs.Whole.{◌+ᶻ◌}
use Rattle.method.specs.Cast.{field}
use Rattle.signed_numbers.proofs.Laws.{abs_32}
use Rattle.right_side.proofs.Laws.{sides, reads_level, adds_level, adds_none}
use Rattle.right_side.proofs.level_at.Goals as goal

pub bounds-values-j : goal.bounds-values-j
bounds-values-j c =
    let h = reads_level c.args.labels.now c.args.j c.label_at-opening.result c.label_at-opening.ensures c.args.values.now c.requires.0 c.if-opening.true in
    search rules

pub offset_bounds-values-j : goal.offset_bounds-values-j
offset_bounds-values-j c =
    let h = reads_level c.args.labels.now c.args.j c.label_at-opening.result c.label_at-opening.ensures c.args.values.now c.requires.0 c.if-opening.true in
    search rules

pub returns-then-opening : goal.returns-then-opening
returns-then-opening c =
    let v : ℤ = field c.args.values.now c.args.j in
    let g : SFits w32 v = record { sfits = c.from-arg-1.given } in
    let e : c.from.result ≡ v = search sides in
    let b = abs_32 v g in
    let k : nat_abs c.from.result ≤ 2 ^ 31 = omega (arith, ap nat_abs e) in
    let p : c.plus.result ≡ c.args.sum +ᶻ c.from.result = search sides in
    let q : c.plus.result ≡ c.args.sum +ᶻ v = p ∙ ap (◌+ᶻ◌ c.args.sum) e in
    let f : SFits w64 c.plus.result = record { sfits = c.plus.type_inv } in
    rw (to_z-of_z f)
    (adds_level c.args.labels.now c.args.j c.label_at-opening.result c.label_at-opening.ensures c.args.values.now c.args.sum c.plus.result c.if-opening.true b q)

pub returns-else-opening : goal.returns-else-opening
returns-else-opening c =
    rw (to_z-of_z c.ranges.sum) (adds_none c.args.labels.now c.args.j c.label_at-opening.result c.label_at-opening.ensures c.args.values.now c.args.sum c.if-opening.false)
