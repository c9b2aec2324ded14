-- Beta, in the first round and later. Assumes nothing.
use Prim.Native.Nat.{ℕ, zero, suc}
use mathlib.Core.Path.{◌≡◌, refl}
use lib.Ieee.{Float}
use Rattle.laws.specs.Binary64.{◌⊘◌, +0}
use Rattle.method.specs.Rounds.{beta_of}

-- beta: none in the first round
pub beta_none : (done : ℕ) (new old : Float) → done ≡ 0 → +0 ≡ beta_of done new old
unfolding beta_of
beta_none done new old h = rw h

pub beta_some : (done : ℕ) (new old : Float) → ¬ (done ≡ 0) → new ⊘ old ≡ beta_of done new old
unfolding beta_of
beta_some zero new old h = absurd (h refl)
beta_some (suc k) new old h = refl
