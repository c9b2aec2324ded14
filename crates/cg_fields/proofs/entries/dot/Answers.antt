-- `cg_fields::entries::dot` meets its contract: each turn adds a product, tested or not. Assumes nothing.
use native.Mathlib.Omega.{arith}
use Rattle.laws.proofs.Loops.{ups}
use Rattle.cg_fields.proofs.Calm.{dot_more, dot_quiet}
use Rattle.cg_fields.proofs.entries.dot.Goals as goal

pub loop-c-init : goal.loop-c-init
unfolding lib.Ieee.of_bits
loop-c-init c = search ups

pub loop-c-preserved : goal.loop-c-preserved
loop-c-preserved c =
    let a = c.args in
    dot_more a.a.now a.b.now c.loop-c.c c.loop-c.sum c.loop-c.invariant

pub returns : goal.returns
returns c = dot_quiet c.loop-c.invariant (omega arith) (omega arith)
