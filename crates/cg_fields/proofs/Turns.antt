-- The kernels at one cell, by its label. Assumes nothing.
use Prim.Native.Nat.{ℕ, zero, suc, ◌<◌}
use mathlib.Core.Path.{◌≡◌, refl}
use mathlib.Core.Bool.{cond}
use mathlib.Core.List.{List}
use borrow.Author.Rules.{rules}
use lib.ListN.{length, get_or, set}
use lib.Ieee.{Float}
use Rattle.laws.specs.Binary64.{◌⊕◌, ◌⊗◌, +0}
use Rattle.method.specs.Cast.{is_air}
use Rattle.method.specs.Rounds.{direction}
use Rattle.grid.proofs.Steps.{air_yes, air_no}

-- ---- the direction, by the number of rounds done
pub first_round : (done : ℕ) (beta z p : Float) → done ≡ 0 → z ≡ direction done beta z p
unfolding direction
first_round done beta z p e = rw e

pub later_round : (done : ℕ) (beta z p : Float) → (done ≡ 0 → ⊥) → z ⊕ beta ⊗ p ≡ direction done beta z p
unfolding direction
later_round zero beta z p h = absurd (h refl)
later_round (suc k) beta z p h = refl

-- ---- by the cell's label
module _ (ls : List ℕ) (c : ℕ) (h : c < length ls) where
  -- a store at place m of the room
  module _ (r : List Float) (m : ℕ) where
    pub stores : (x : Float) → get_or ls c 0 ≡ 0 → set r m x ≡ set r m (cond (is_air ls c) x +0)
    stores x e = rw (air_yes ls c h e)

    pub stores_as : (x y : Float) → get_or ls c 0 ≡ 0 → x ≡ y → set r m x ≡ set r m (cond (is_air ls c) y +0)
    stores_as x y e q = rw (air_yes ls c h e, q)

    pub clears : (y : Float) → (get_or ls c 0 ≡ 0 → ⊥) → set r m +0 ≡ set r m (cond (is_air ls c) y +0)
    clears y e = rw (air_no ls c h e)

pub ruleset cell = (rules, first_round, later_round, stores, stores_as, clears)
