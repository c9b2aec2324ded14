-- What the room of a round holds, and what each part of a round makes of it.
use Rattle.std.specs.Prelude.{ℕ, ◌+◌, ◌-◌, ◌*◌, ◌≤◌, ◌<◌, ◌≡◌, List, length, ℤ, Float, Result}
use Rattle.laws.specs.Binary64.{◌⊕◌, ◌⊖◌, ◌⊗◌, +0}
use Rattle.method.specs.declared.Sides.{Sides}
use Rattle.method.specs.declared.Settings.{Settings}
use Rattle.method.specs.declared.Scalars.{Scalars}
use Rattle.method.specs.Cast.{Cast, cells}
use Rattle.method.specs.Transfers.{value, in_air}
use Rattle.method.specs.Cycle.{applied, cycle}
use Rattle.method.specs.Ticks.{rounded}
use Rattle.method.specs.Rounds.{State, dot, beta_of, direction, scalars, run, start}
use Rattle.theory.specs.Quiet.{Quiet}
use Rattle.answers.specs.declared.Passed.{Passed}
use Rattle.answers.specs.declared.Halt.{Halt}
use Rattle.answers.specs.Ends.{end_of}
use Rattle.levels.specs.Levels.{base}
use Rattle.bands.specs.AllLists.{base_labels}
use Rattle.cycle.specs.Rooms as Rooms
use Rattle.rounds.specs.declared.Plan.{Plan}
use Rattle.cg_fields.specs.Fields.{x_of, p_of, z_of, r_of, t_of}

abbrev pub cast_of : Sides → List ℕ → List ℤ → Cast
cast_of g ls vs = record { sides = g; labels = ls; values = vs }

-- the state that a room holds after so many rounds, with the last round's rho
abbrev pub state_of : ℕ → ℕ → Float → List Float → State
state_of n done rho room = record { rounds = done; x = x_of n room; r = r_of n room; p = p_of n room; rho = rho }

-- x, p and r are zero off air, so that no kernel of a round has to read a label
pub record Calm (g : Sides) (ls : List ℕ) (room : List Float) : Type 0 where
  pub x : Quiet g ls (x_of (cells g) room)
  pub p : Quiet g ls (p_of (cells g) room)
  pub r : Quiet g ls (r_of (cells g) room)

-- ---- what a round is made of: method's `round`, piece by piece
module _ (g : Sides) (ls : List ℕ) (below : ℕ) (st : State) where
  unfoldable pub z_new : List Float
  z_new = cycle 0 below g ls st.r

  unfoldable pub rho_new : Float
  rho_new = dot g ls (value z_new) (value st.r)

  unfoldable pub beta_new : Float
  beta_new = beta_of st.rounds rho_new st.rho

  unfoldable pub p_new : List Float
  p_new = in_air g ls (λ c. direction st.rounds beta_new (value z_new c) (value st.p c))

  unfoldable pub scalars_new : Scalars
  scalars_new = scalars g ls below st z_new p_new rho_new

-- ---- the plan: the cast that it is for, and how many levels are below the first
abbrev pub below : Plan → ℕ
below plan = plan.count - 1

abbrev pub plan_sides : Plan → Sides
plan_sides plan = base plan.levels

abbrev pub plan_labels : Plan → List ℕ → List ℕ
plan_labels plan bytes = base_labels plan.levels bytes

-- levels and lists as prepared, n cells on level 0, and r elements of room, of which one is spare
pub record Prepared (plan : Plan) (bytes words : List ℕ) (n r : ℕ) : Type 0 where
  pub levels : Rooms.Prepared plan.levels plan.lists plan.count bytes words
  pub size : n ≡ cells (plan_sides plan)
  pub roomy : 8 * n + 15 < r

-- the same for the cast of these sides and labels
pub record Planned (plan : Plan) (bytes words : List ℕ) (g : Sides) (ls : List ℕ) (r : ℕ) : Type 0 where
  pub prepared : Prepared plan bytes words (cells g) r
  pub sides : plan_sides plan ≡ g
  pub labels : plan_labels plan bytes ≡ ls
  pub labelled : length ls ≡ cells g

-- ---- from room e to room s, field by field; what z, t and the coarser levels hold is said only where it is used
-- z is the cycle of r
pub record Drawn (g : Sides) (ls : List ℕ) (low n : ℕ) (e s : List Float) : Type 0 where
  pub x : x_of n s ≡ x_of n e
  pub p : p_of n s ≡ p_of n e
  pub z : z_of n s ≡ cycle 0 low g ls (r_of n e)
  pub r : r_of n s ≡ r_of n e
  pub long : length s ≡ length e

-- the same, and rho = z·r
pub record Rho (g : Sides) (ls : List ℕ) (low : ℕ) (e : List Float) (rho : Float) (s : List Float) : Type 0 where
  pub drawn : Drawn g ls low (cells g) e s
  pub is : rho ≡ dot g ls (value (z_of (cells g) s)) (value (r_of (cells g) s))

-- t is A p
pub record Applied (g : Sides) (ls : List ℕ) (e s : List Float) : Type 0 where
  pub x : x_of (cells g) s ≡ x_of (cells g) e
  pub p : p_of (cells g) s ≡ p_of (cells g) e
  pub r : r_of (cells g) s ≡ r_of (cells g) e
  pub t : t_of (cells g) s ≡ in_air g ls (applied g ls (p_of (cells g) e))
  pub long : length s ≡ length e

-- t is A p, and sigma = p·A p
pub record Sigma (g : Sides) (ls : List ℕ) (e : List Float) (sigma : Float) (s : List Float) : Type 0 where
  pub x : x_of (cells g) s ≡ x_of (cells g) e
  pub p : p_of (cells g) s ≡ p_of (cells g) e
  pub r : r_of (cells g) s ≡ r_of (cells g) e
  pub t : t_of (cells g) s ≡ in_air g ls (applied g ls (p_of (cells g) e))
  pub is : sigma ≡ dot g ls (value (p_of (cells g) e)) (applied g ls (p_of (cells g) e))
  pub long : length s ≡ length e

-- p is the new direction, t is A p, and the scalars are the round's
pub record Scaled (g : Sides) (ls : List ℕ) (low done : ℕ) (old : Float) (e : List Float) (q : Scalars) (s : List Float) : Type 0 where
  pub x : x_of (cells g) s ≡ x_of (cells g) e
  pub p : p_of (cells g) s ≡ p_new g ls low (state_of (cells g) done old e)
  pub r : r_of (cells g) s ≡ r_of (cells g) e
  pub t : t_of (cells g) s ≡ in_air g ls (applied g ls (p_new g ls low (state_of (cells g) done old e)))
  pub is : q ≡ scalars_new g ls low (state_of (cells g) done old e)
  pub long : length s ≡ length e

-- x + alpha·p, r - alpha·t
pub record Advanced (g : Sides) (ls : List ℕ) (alpha : Float) (e s : List Float) : Type 0 where
  pub x : x_of (cells g) s ≡ in_air g ls (λ c. value (x_of (cells g) e) c ⊕ alpha ⊗ value (p_of (cells g) e) c)
  pub p : p_of (cells g) s ≡ p_of (cells g) e
  pub r : r_of (cells g) s ≡ in_air g ls (λ c. value (r_of (cells g) e) c ⊖ alpha ⊗ value (t_of (cells g) e) c)
  pub long : length s ≡ length e

-- ---- the rounds
-- what they ask: a plan of this very cast, as many levels as the settings say, a label and a value a cell
pub record Ready (g : Sides) (ls : List ℕ) (vs : List ℤ) (t : Settings) (plan : Plan) (bytes words : List ℕ) (r : ℕ) : Type 0 where
  pub planned : Planned plan bytes words g ls r
  pub valued : length vs ≡ cells g
  pub levels : plan.count ≡ t.levels
  pub tolerance : t.tolerance ≤ 1000000
  pub limit : t.rounds ≤ 1000

-- the rounds end as document 01's, from the state that room e holds, as a says and with the x of room s
pub record RunOf (g : Sides) (ls : List ℕ) (vs : List ℤ) (t : Settings) (e : List Float) (a : Result Passed Halt) (s : List Float) : Type 0 where
  pub is : run (cast_of g ls vs) t t.rounds (state_of (cells g) 0 +0 e) ≡ end_of a (rounded (cast_of g ls vs) (x_of (cells g) s))

-- THE PROMISE: the same from the start
pub record EndOf (g : Sides) (ls : List ℕ) (vs : List ℤ) (t : Settings) (a : Result Passed Halt) (s : List Float) : Type 0 where
  pub is : run (cast_of g ls vs) t t.rounds (start (cast_of g ls vs)) ≡ end_of a (rounded (cast_of g ls vs) (x_of (cells g) s))
