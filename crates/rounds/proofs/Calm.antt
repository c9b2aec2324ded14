-- Off air the fields of a round are zero, from the start on: what the calls of a round ask of them. Assumes nothing.
use Prim.Native.Nat.{ℕ, ◌*◌, ◌≤◌}
use mathlib.Core.Path.{◌≡◌, refl, sym, ap, ◌∙◌}
use mathlib.Core.Bool.{Bool, true, false, cond}
use mathlib.Core.List.{List}
use native.Mathlib.Omega.{arith}
use borrow.Author.Rules.{rules}
use lib.ListN.{length, take, drop}
use lib.Ieee.{Float}
use Rattle.method.specs.declared.Sides.{Sides}
use Rattle.method.specs.declared.Scalars.{Scalars}
use Rattle.std.specs.Prelude.{Result, Ok, Err}
use Rattle.method.specs.Cast.{cells}
use Rattle.method.specs.Rounds.{finite, usable, step}
use Rattle.theory.specs.Quiet.{Quiet}
use Rattle.theory.proofs.Quiet.{quiet_in_air, quiet_cycle}
use Rattle.smooth.specs.Entries.{InCells}
use Rattle.cycle.specs.Rooms.{air_from}
use Rattle.rounds.specs.declared.Plan.{Plan}
use Rattle.cg_fields.specs.Entries.{Aimed}
use Rattle.cg_fields.specs.Fields.{p_of, z_of, r_of, t_of}
use Rattle.rounds.specs.Rounds.{p_new, below, plan_sides, plan_labels, Planned, Calm, Drawn, Rho, Applied, Scaled, Advanced}
use Rattle.rounds.proofs.Turns.{air_listed}

-- ---- z and r, for rho
module _ {plan : Plan} {bytes words : List ℕ} {g : Sides} {ls : List ℕ} {r : ℕ} (z : Planned plan bytes words g ls r) {e s : List Float}
    (d : Drawn (plan_sides plan) (plan_labels plan bytes) (below plan) (length ls) e s) where
  drawn_here : Drawn g ls (below plan) (cells g) e s
  drawn_here = rw (z.sides, z.labels, z.labelled) at d

  pub quiet_z : Quiet g ls (take (cells g) (drop (2 * length ls) s))
  quiet_z = rw z.labelled (rw drawn_here.z (quiet_cycle 0 (below plan) g ls (r_of (cells g) e)))

  pub quiet_r : Quiet g ls (r_of (cells g) e) → Quiet g ls (take (cells g) (drop (3 * length ls) s))
  quiet_r q = rw z.labelled (rw drawn_here.r q)

-- ---- z and p, for the direction; p, for A p
module _ {g : Sides} {ls : List ℕ} {low : ℕ} {rho : Float} {e m : List Float} (a : Rho g ls low e rho m) where
  pub aim_z : Quiet g ls (z_of (cells g) m)
  aim_z = rw a.drawn.z (quiet_cycle 0 low g ls (r_of (cells g) e))

  pub aim_p : Calm g ls e → Quiet g ls (p_of (cells g) m)
  aim_p q = rw a.drawn.p q.p

pub sigma_p : {g : Sides} {ls : List ℕ} {done : ℕ} {beta : Float} {m k : List Float} → Aimed g ls done beta m k → Quiet g ls (p_of (cells g) k)
sigma_p c = rw c.p (quiet_in_air _)

pub air_in_lem : {plan : Plan} {bytes words : List ℕ} {g : Sides} {ls : List ℕ} (e : List Float) (z : Planned plan bytes words g ls (length e)) {es : List ℕ}
    → es ≡ air_from plan.lists 0 words → InCells (length ls) es
air_in_lem e z q = record { at = λ k h. omega (arith, ((air_listed e z q).entries.at k h).here, z.labelled) }

pub five_in : {plan : Plan} {bytes words : List ℕ} {g : Sides} {ls : List ℕ} {r : ℕ} (z : Planned plan bytes words g ls r) → 5 * length ls ≤ r
five_in z = omega (arith, z.prepared.roomy, z.labelled)

-- ---- p and t, for sigma
module _ {g : Sides} {ls : List ℕ} {e s : List Float} (len : length ls ≡ cells g) (a : Applied g ls e s) where
  pub quiet_p : Quiet g ls (p_of (cells g) e) → Quiet g ls (take (cells g) (drop (length ls) s))
  quiet_p q = rw len (rw a.p q)

  pub quiet_t : Quiet g ls (take (cells g) (drop (4 * length ls) s))
  quiet_t = rw len (rw a.t (quiet_in_air _))

-- ---- after the scalars, and after a round
module _ {g : Sides} {ls : List ℕ} {low done : ℕ} {old : Float} {e k : List Float} {q : Scalars} (c : Scaled g ls low done old e q k) where
  pub scaled_calm : Calm g ls e → Calm g ls k
  unfolding p_new
  scaled_calm h = record { x = rw c.x h.x; p = rw c.p (quiet_in_air _); r = rw c.r h.r }

  pub scaled_t : Quiet g ls (t_of (cells g) k)
  scaled_t = rw c.t (quiet_in_air _)

pub advanced_calm : {g : Sides} {ls : List ℕ} {alpha : Float} {k s : List Float} → Calm g ls k → Advanced g ls alpha k s → Calm g ls s
advanced_calm h a = record { x = rw a.x (quiet_in_air _); p = rw a.p h.p; r = rw a.r (quiet_in_air _) }

-- ---- a step goes by a finite alpha
stall_not : {a b : Float} → Err a ≡ Ok b → ⊥
stall_not h = let z : ◌≡◌ {A = ℕ} 0 1 = cc in omega arith

pub go_finite : (q : Scalars) (w : Result Float Float) (alpha : Float) → w ≡ step q → w ≡ Ok alpha → finite alpha ≡ true
unfolding step
go_finite q w alpha u h = go (usable q.rho) (usable q.sigma) (finite q.alpha) refl (sym u ∙ h)
  where
    go : (a b c : Bool) → finite q.alpha ≡ c → cond a (cond b (cond c (Ok q.alpha) (Err q.alpha)) (Err q.sigma)) (Err q.rho) ≡ Ok alpha → finite alpha ≡ true
    go true true true e y = let same : q.alpha ≡ alpha = cc in ap finite (sym same) ∙ e
    go true true false e y = absurd (stall_not y)
    go true false c e y = absurd (stall_not y)
    go false b c e y = absurd (stall_not y)

pub ruleset calm = (rules, quiet_z, quiet_r, aim_z, aim_p, sigma_p, air_in_lem, five_in, quiet_p, quiet_t)
