-- Document 01, "The rounds": whole ticks, and the test. Definitions only.
use Rattle.std.specs.Prelude.{ℕ, ◌+◌, ◌*◌, ◌/◌, ◌%◌, ◌^◌, Bool, true, false, not, ◌&&◌, cond, List, map, eqb, ltb, leb, ℤ, pos, neg_ℤ, Float, Option, Some, None}
use Rattle.std.specs.Float.Ieee as Ieee
use Rattle.std.specs.Float.{nan, inf, fin}
use Rattle.laws.specs.Lists.{tab, any}
use Rattle.method.specs.declared.Settings.{Settings}
use Rattle.method.specs.Cast.{Cast, cells, is_air, level, worst}
use Rattle.method.specs.Transfers.{value}

-- ---- "round every x to the nearest whole tick", and document 02, wish 3: "a tie goes to the even tick"
-- what lies half way between q and q + 1: the even one of the two
unfoldable pub tie : ℕ → ℕ
tie q = cond (eqb (q % 2) 0) q (q + 1)

-- the whole number nearest to a / b
unfoldable pub nearest : ℕ → ℕ → ℕ
nearest a b = cond (ltb (a % b * 2) b) (a / b) (cond (ltb b (a % b * 2)) (a / b + 1) (tie (a / b)))

unfoldable pub furthest : ℕ
furthest = 2 ^ 41

unfoldable pub signed : Bool → ℕ → ℤ
signed true m = neg_ℤ (pos m)
signed false m = pos m

-- "finite, within ±2^41 after rounding"
unfoldable pub kept : Bool → ℕ → Option ℤ
kept s m = cond (leb m furthest) (Some (signed s m)) None

unfoldable pub tick : Float → Option ℤ
tick nan = None
tick (inf s) = None
tick (fin s m e) = kept s (nearest (m * Ieee.up e) (Ieee.down e))

-- "opening levels, 0 at walls, whole ticks in air"
unfoldable pub ticks : Cast → List Float → List (Option ℤ)
ticks k x = tab (cells k.sides) (λ c. cond (is_air k.labels c) (tick (value x c)) (Some (level k.labels k.values c)))

unfoldable pub is_refused : Option ℤ → Bool
is_refused (Some z) = false
is_refused None = true

unfoldable pub whole_of : Option ℤ → ℤ
whole_of (Some z) = z
whole_of None = pos 0

unfoldable pub rounded : Cast → List Float → List ℤ
rounded k x = map whole_of (ticks k x)

-- "pass if all are finite, within ±2^41 after rounding, and every exact residual is within tolerance"
unfoldable pub passes : Cast → Settings → List Float → Bool
passes k t x = not (any is_refused (ticks k x)) && leb (worst k (rounded k x)) t.tolerance

-- one name that opens this file
unfoldable pub computing_ticks : Unit {0}
unfolding tie nearest furthest signed kept tick ticks is_refused whole_of rounded passes
computing_ticks = tt
