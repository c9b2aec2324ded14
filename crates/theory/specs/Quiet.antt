-- Fields that are +0 wherever there is no air: what such a field adds to a sum changes nothing, so that a kernel need
-- not read labels.
use Rattle.std.specs.Prelude.{ℕ, ◌<◌, ◌≡◌, false, List, Float}
use Rattle.laws.specs.Binary64.{+0}
use Rattle.method.specs.declared.Sides.{Sides}
use Rattle.method.specs.Cast.{cells, is_air}
use Rattle.method.specs.Transfers.{value}

pub record Quiet (s : Sides) (ls : List ℕ) (u : List Float) : Type 0 where
  pub at : (c : ℕ) → c < cells s → is_air ls c ≡ false → value u c ≡ +0
