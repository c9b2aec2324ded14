-- `session_values::store_first` meets its contract: the first c values are stored. Assumes nothing.
use Rattle.std.proofs.Common.{◌∙◌}
use native.Mathlib.Omega.{arith}
use mir.Syntax.{w32}
use mir.Facts.{to_z-of_z}
use Rattle.session_values.proofs.WordLaws.{stored_none, stored_more, stored_all}
use Rattle.session_values.proofs.store_first.Goals as goal

pub loop-c-init : goal.loop-c-init
loop-c-init g c = λ t h. stored_none t _

pub loop-c-preserved : goal.loop-c-preserved
loop-c-preserved g c = λ t h.
    stored_more t _ _ _ _ (omega (arith, c.loop-c-test.true, c.requires.room)) (c.loop-c.invariant t h)
    (to_z-of_z {w = w32} (record { sfits = c.value.type_inv }) ∙ h _ _ c.loop-c-test.true c.value.ensures)

pub returns : goal.returns
returns g c = λ t h. stored_all t _ _ _ _ (c.loop-c.auto.c-end) (omega (arith, c.loop-c-test.false)) (c.loop-c.invariant t h)
