-- Document 01, "The rounds". Definitions only.
use Rattle.std.specs.Prelude.{ℕ, zero, suc, ◌-◌, Bool, true, false, ◌&&◌, cond, List, ℤ, Float, Result, Ok, Err}
use Rattle.std.specs.Float.Ieee as Ieee
use Rattle.std.specs.Float.{nan, inf, fin}
use Rattle.laws.specs.Loops.{up}
use Rattle.laws.specs.Lists.{over}
use Rattle.laws.specs.Whole.{◌+ᶻ◌}
use Rattle.laws.specs.Binary64.{◌⊕◌, ◌⊖◌, ◌⊗◌, ◌⊘◌, +0, ofℤ}
use Rattle.method.specs.declared.Sides.{Sides}
use Rattle.method.specs.declared.Settings.{Settings}
use Rattle.method.specs.declared.Scalars.{Scalars}
use Rattle.method.specs.Cast.{Cast, cells, is_air, is_opening, around, field, level, worst}
use Rattle.method.specs.Transfers.{value, in_air}
use Rattle.method.specs.Cycle.{applied, zeros, cycle}
use Rattle.method.specs.Ticks.{rounded, passes}

-- ---- "b is source plus neighbouring opening levels": whole, converted once
unfoldable pub right_side : Cast → List Float
right_side k =
    in_air k.sides k.labels
    (λ c. ofℤ (over (is_opening k.labels) (λ j b. b +ᶻ level k.labels k.values j) (around k.sides c) (field k.values c)))

-- ---- a round
-- how many rounds are done; x, r, the last round's p and rho
pub record State : Type 0 where
  pub rounds : ℕ
  pub x : List Float
  pub r : List Float
  pub p : List Float
  pub rho : Float

-- "over air cells", from +0.0
unfoldable pub dot : Sides → List ℕ → (ℕ → Float) → (ℕ → Float) → Float
dot s ls f g = up (λ c a. cond (is_air ls c) (a ⊕ f c ⊗ g c) a) (cells s) +0

-- "In the first round p = z, later p = z + beta·p with beta = new rho / old rho."
unfoldable pub beta_of : ℕ → Float → Float → Float
beta_of zero new old = +0
beta_of (suc k) new old = new ⊘ old

unfoldable pub direction : ℕ → Float → Float → Float → Float
direction zero beta z p = z
direction (suc k) beta z p = z ⊕ beta ⊗ p

unfoldable pub finite : Float → Bool
finite nan = false
finite (inf s) = false
finite (fin s m e) = true

-- "finite and above 0"
unfoldable pub usable : Float → Bool
usable a = finite a && Ieee.lt +0 a

-- "The step hands back either alpha or the scalar that stalled it."
unfoldable pub step : Scalars → Result Float Float
step q =
    cond (usable q.rho) (cond (usable q.sigma) (cond (finite q.alpha) (Ok q.alpha) (Err q.alpha)) (Err q.sigma)) (Err q.rho)

-- what a round ends in: the next state, or a stall
pub data Turn : Type 0 where
  stalled : Turn
  turned : State → Turn

module _ (s : Sides) (ls : List ℕ) (below : ℕ) (st : State) where
  -- "The four scalars of a round travel together."
  unfoldable pub scalars : List Float → List Float → Float → Scalars
  scalars z p new =
      let sigma = dot s ls (value p) (applied s ls p) in
      record { rho = new; sigma = sigma; alpha = new ⊘ sigma; beta = beta_of st.rounds new st.rho }

  -- "Then x + alpha·p, r - alpha·A p, one round more"
  unfoldable pub moved : List Float → Float → Result Float Float → Turn
  moved p new (Err a) = stalled
  moved p new (Ok alpha) = turned record {
    rounds = suc st.rounds;
    x = in_air s ls (λ c. value st.x c ⊕ alpha ⊗ value p c);
    r = in_air s ls (λ c. value st.r c ⊖ alpha ⊗ applied s ls p c);
    p = p;
    rho = new;
  }

  unfoldable pub round : Turn
  unfolding moved
  round =
      let z = cycle 0 below s ls st.r in
      let new = dot s ls (value z) (value st.r) in
      let beta = beta_of st.rounds new st.rho in
      let p = in_air s ls (λ c. direction st.rounds beta (value z c) (value st.p c)) in
      moved p new (step (scalars z p new))

-- ---- the rounds: how they end. Accepted after so many rounds, with the worst residual and the pressures; or 8 or 9
-- after so many
pub data End : Type 0 where
  solved : ℕ → ℕ → List ℤ → End
  failed : ℕ → ℕ → End

module _ (k : Cast) (t : Settings) where
  unfoldable pub pass : State → End
  pass st = solved st.rounds (worst k (rounded k st.x)) (rounded k st.x)

  unfoldable pub fail : ℕ → State → End
  fail num st = failed num st.rounds

  -- "A pass is answer 0; a failed test with rounds equal to the limit is 8. Otherwise .." left is how many rounds are
  -- left.
  unfoldable pub run : ℕ → State → End
  run zero st = elim (passes k t st.x) [ true ↦ pass st | false ↦ fail 8 st ]
  run (suc left) st =
      elim (passes k t st.x) [
        | true ↦ pass st
        | false ↦ elim (round k.sides k.labels (t.levels - 1) st) [ stalled ↦ fail 9 st | turned next ↦ run left next ]
      ]

-- "x = 0, r = b"
unfoldable pub start : Cast → State
start k =
    let none = zeros k.sides in
    record { rounds = 0; x = none; r = right_side k; p = none; rho = +0 }

unfoldable pub ending : Cast → Settings → End
ending k t = run k t t.rounds (start k)

-- one name that opens this file
unfoldable pub computing_rounds : Unit {0}
unfolding right_side dot beta_of direction finite usable step scalars moved round pass fail run start ending
computing_rounds = tt
