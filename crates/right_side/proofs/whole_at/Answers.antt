-- `right_side::whole_at` meets its contract: after i turns the sum is that of the first i cells. Assumes nothing.
use Prim.Native.Nat.{◌≤◌, ◌^◌}
use mathlib.Core.Path.{◌≡◌, ap, ◌∙◌}
use native.Mathlib.Omega.{arith}
use borrow.Author.Rules.{rules}
use lib.IntN.{ℤ, nat_abs}
use lib.Seq.{take_all}
use mir.Syntax.{w32, w64}
use mir.Val.{SFits, to_z, of_z}
use mir.Facts.{to_z-of_z}
use Rattle.method.specs.Cast.{field}
use Rattle.signed_numbers.proofs.Laws.{abs_32, gives_wide}
use Rattle.right_side.proofs.Laws.{sides, gathering_end}
use Rattle.right_side.proofs.whole_at.Goals as goal

pub loop-j-init : goal.loop-j-init
loop-j-init c =
    let v : ℤ = field c.args.values.now c.args.c in
    let f : SFits w32 v = record { sfits = c.from-arg-1.given } in
    let e : c.from-b.result ≡ v = search sides in
    let h : nat_abs c.from-b.result ≤ 2 ^ 31 = omega (arith, ap nat_abs e, abs_32 v f) in
    search sides

pub loop-j-preserved : goal.loop-j-preserved
loop-j-preserved c = search sides

pub returns : goal.returns
returns c =
    let l = c.loop-j in
    let v : ℤ = field c.args.values.now c.args.c in
    let f : SFits w32 v = record { sfits = c.from-arg-1.given } in
    let k : SFits w64 c.from-b.result = record { sfits = c.from-b.type_inv } in
    let e : to_z w64 (of_z w64 c.from-b.result) ≡ v = to_z-of_z k ∙ gives_wide v c.from-b.result f c.from-b.ensures in
    gathering_end c.args.g c.args.c l.j-index (to_z w64 (of_z w64 c.from-b.result)) (to_z w64 l.b-bits) (search (rules, take_all)) e l.invariant (omega arith) (omega arith)
