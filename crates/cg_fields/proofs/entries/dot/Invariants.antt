-- `cg_fields::entries::dot` meets its contract: each turn adds a product, tested or not. Assumes nothing.
use Rattle.laws.specs.Binary64.{+0}
use Rattle.laws.proofs.Loops.{Up}
use Rattle.cg_fields.specs.Entries.{dot_all}
use Rattle.cg_fields.proofs.entries.dot.Given as goal

abbrev pub invariant-loop-c : goal.invariant-loop-c
invariant-loop-c l = Up (dot_all l.a l.b) +0 l.c l.sum
