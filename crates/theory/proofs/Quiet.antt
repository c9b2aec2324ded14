-- Off air every field of a cycle is +0: those that are made in air only, and what sweeps of air cells leave of such.
-- Assumes nothing.
use Prim.Native.Nat.{ℕ, zero, suc}
use mathlib.Core.Path.{◌≡◌, refl, sym, ap, ◌∙◌}
use mathlib.Core.Bool.{Bool, true, false, cond, false≢true}
use mathlib.Core.List.{List}
use lib.ListN.{set}
use lib.Seq.{get_or-set_other}
use lib.Ieee.{Float, nan}
use Rattle.laws.specs.Binary64.{◌⊕◌, +0}
use Rattle.laws.specs.Loops.{up, down}
use Rattle.laws.proofs.Lists.{get_or_tab}
use Rattle.method.specs.declared.Sides.{Sides}
use Rattle.method.specs.Cast.{Cast, cells, is_air}
use Rattle.method.specs.Transfers.{value, in_air}
use Rattle.method.specs.Cycle.{in_band, change, jacobi, relaxed, ascending, descending, zeros, residue, corrected, times, coarsest, downstroke, upstroke, sweeps, cycle}
use Rattle.method.specs.Rounds.{right_side}
use Rattle.theory.specs.Quiet.{Quiet}
use Rattle.theory.proofs.Children.{band_air}

module _ {s : Sides} {ls : List ℕ} where
  pub quiet_in_air : (f : ℕ → Float) → Quiet s ls (in_air s ls f)
  unfolding in_air
  quiet_in_air f = record { at = λ c h a. get_or_tab (cells s) (λ c. cond (is_air ls c) (f c) +0) c nan h ∙ ap (λ t. cond t (f c) +0) a }

  pub quiet_zeros : Quiet s ls (zeros s)
  unfolding zeros
  quiet_zeros = record { at = λ c h a. get_or_tab (cells s) (λ c. +0) c nan h }

  pub quiet_jacobi : (b u : List Float) → Quiet s ls (jacobi s ls b u)
  unfolding jacobi
  quiet_jacobi b u = quiet_in_air _

  pub quiet_residue : (b u : List Float) → Quiet s ls (residue s ls b u)
  unfolding residue
  quiet_residue b u = quiet_in_air _

  pub quiet_corrected : (u w : List Float) → Quiet s ls (corrected s ls u w)
  unfolding corrected
  quiet_corrected u w = quiet_in_air _

  -- ---- a step at an air cell, and sweeps of such steps
  pub quiet_set : (u : List Float) (c : ℕ) (x : Float) → is_air ls c ≡ true → Quiet s ls u → Quiet s ls (set u c x)
  quiet_set u c x a q = record { at = λ j h b. get_or-set_other u c j x nan (λ e. false≢true (sym b ∙ ap (is_air ls) e ∙ a)) ∙ q.at j h b }

  pub quiet_relaxed : (at : ℕ → Bool) → ((c : ℕ) → at c ≡ true → is_air ls c ≡ true) → (b u : List Float) (c : ℕ) → Quiet s ls u → Quiet s ls (relaxed s ls at b c u)
  unfolding relaxed
  quiet_relaxed at air b u c q = go (at c) (air c)
    where
      go : (t : Bool) → (t ≡ true → is_air ls c ≡ true) → Quiet s ls (cond t (set u c (value u c ⊕ change s ls b u c)) u)
      go true a = quiet_set u c _ (a refl) q
      go false a = q

  pub quiet_up : (f : ℕ → List Float → List Float) → ((c : ℕ) (u : List Float) → Quiet s ls u → Quiet s ls (f c u)) → (k : ℕ) (u : List Float) → Quiet s ls u → Quiet s ls (up f k u)
  unfolding up
  quiet_up f h zero u q = q
  quiet_up f h (suc k) u q = h k (up f k u) (quiet_up f h k u q)

  pub quiet_down : (f : ℕ → List Float → List Float) → ((c : ℕ) (u : List Float) → Quiet s ls u → Quiet s ls (f c u)) → (k : ℕ) (u : List Float) → Quiet s ls u → Quiet s ls (down f k u)
  unfolding down
  quiet_down f h zero u q = q
  quiet_down f h (suc k) u q = quiet_down f h k (f k u) (h k u q)

  module _ (at : ℕ → Bool) (air : (c : ℕ) → at c ≡ true → is_air ls c ≡ true) (b : List Float) where
    pub quiet_ascending : (u : List Float) → Quiet s ls u → Quiet s ls (ascending s ls at b u)
    unfolding ascending
    quiet_ascending u q = quiet_up (relaxed s ls at b) (λ c v. quiet_relaxed at air b v c) (cells s) u q

    pub quiet_descending : (u : List Float) → Quiet s ls u → Quiet s ls (descending s ls at b u)
    unfolding descending
    quiet_descending u q = quiet_down (relaxed s ls at b) (λ c v. quiet_relaxed at air b v c) (cells s) u q

  pub quiet_times : (f : List Float → List Float) → ((u : List Float) → Quiet s ls u → Quiet s ls (f u)) → (k : ℕ) (u : List Float) → Quiet s ls u → Quiet s ls (times k f u)
  unfolding times
  quiet_times f h k u q = quiet_up (λ i. f) (λ i. h) k u q

  -- ---- the strokes
  pub quiet_coarsest : (b : List Float) → Quiet s ls (coarsest s ls b)
  unfolding coarsest
  quiet_coarsest b =
      quiet_times (descending s ls (is_air ls) b) (quiet_descending (is_air ls) (λ c a. a) b) 8 _
      (quiet_times (ascending s ls (is_air ls) b) (quiet_ascending (is_air ls) (λ c a. a) b) 8 _ quiet_zeros)

  pub quiet_downstroke : (l : ℕ) (b : List Float) → Quiet s ls (downstroke l s ls b)
  unfolding downstroke
  quiet_downstroke l b = quiet_times (ascending s ls (in_band s ls) b) (quiet_ascending (in_band s ls) (band_air s ls) b) (sweeps l) _ (quiet_jacobi b (zeros s))

-- THE LAW: off air a cycle's result is +0
pub quiet_cycle : (l below : ℕ) (s : Sides) (ls : List ℕ) (b : List Float) → Quiet s ls (cycle l below s ls b)
unfolding cycle upstroke
quiet_cycle l zero s ls b = quiet_coarsest b
quiet_cycle l (suc below) s ls b = quiet_jacobi b _

-- and so is b at the start
pub quiet_right : (k : Cast) → Quiet k.sides k.labels (right_side k)
unfolding right_side
quiet_right k = quiet_in_air _
