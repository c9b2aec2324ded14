-- What each kernel leaves of a room that is laid out: for the crates that call several, one after the other. Assumes
-- nothing.
use Prim.Native.Nat.{ℕ, ◌*◌}
use mathlib.Core.Path.{◌≡◌, ◌∙◌}
use mathlib.Core.List.{List, ◌++◌}
use lib.ListN.{length, get_or, drop}
use lib.Ieee.{Float}
use Rattle.laws.specs.Binary64.{+0}
use Rattle.laws.proofs.Lists.{length_tab}
use Rattle.laws.proofs.Fills.{up_keeps, down_keeps}
use Rattle.method.specs.declared.Sides.{Sides}
use Rattle.method.specs.Cast.{cells, is_air}
use Rattle.method.specs.Transfers.{in_air}
use Rattle.method.specs.Cycle.{relaxed, rest, jacobi, residue, zeros}
use Rattle.smooth.specs.Fields.{u_of, b_of, Laid}
use Rattle.smooth.specs.Sweeps.{relaxed_at, swept_up, swept_down}
use Rattle.smooth.proofs.Fields.{laid_u, laid_b, laid_rest, laid_follows}
use Rattle.smooth.proofs.Sweeps.{relaxed_length}

-- ---- a field has one element a cell, whatever made it
pub in_air_length : (g : Sides) (ls : List ℕ) (f : ℕ → Float) → length (in_air g ls f) ≡ cells g
unfolding in_air
in_air_length g ls f = length_tab (cells g) _

pub zeros_length : (g : Sides) → length (zeros g) ≡ cells g
unfolding zeros
zeros_length g = length_tab (cells g) (λ c. +0)

pub jacobi_length : (g : Sides) (ls : List ℕ) (b u : List Float) → length (jacobi g ls b u) ≡ cells g
unfolding jacobi
jacobi_length g ls b u = in_air_length g ls _

pub residue_length : (g : Sides) (ls : List ℕ) (b u : List Float) → length (residue g ls b u) ≡ cells g
unfolding residue
residue_length g ls b u = in_air_length g ls (rest g ls b u)

module _ (g : Sides) (ls cs : List ℕ) (b u : List Float) where
  pub swept_up_length : length (swept_up g ls cs b u) ≡ length u
  unfolding swept_up
  swept_up_length = up_keeps (relaxed_at g ls cs b) (λ k v. relaxed_length g ls (is_air ls) b (get_or cs k 0) v) (length cs) u

  pub swept_down_length : length (swept_down g ls cs b u) ≡ length u
  unfolding swept_down
  swept_down_length = down_keeps (relaxed_at g ls cs b) (λ k v. relaxed_length g ls (is_air ls) b (get_or cs k 0) v) (length cs) u

-- ---- after each kernel. A caller of several states a law over plain variables, which applies these one in another,
-- and cites it.
module _ (g : Sides) {u b t r s x : List Float} (l : Laid (cells g) u b t r s) where
  -- a kernel that gives u anew, from u and b
  front : (f : List Float → List Float → List Float) → length (f b u) ≡ cells g → x ≡ f (b_of (cells g) s) (u_of (cells g) s) ++ drop (cells g) s
      → Laid (cells g) (f b u) b t r x
  front f k e = record { is = e ∙ rw (laid_b l, laid_u l, laid_rest l); u_length = k; b_length = l.b_length; t_length = l.t_length }

  pub after_clear : x ≡ zeros g ++ drop (cells g) s → Laid (cells g) (zeros g) b t r x
  after_clear e = front (λ b u. zeros g) (zeros_length g) e

  pub after_relax : (ls : List ℕ) (c : ℕ) → x ≡ relaxed g ls (is_air ls) (b_of (cells g) s) c (u_of (cells g) s) ++ drop (cells g) s
      → Laid (cells g) (relaxed g ls (is_air ls) b c u) b t r x
  after_relax ls c e = front (λ b u. relaxed g ls (is_air ls) b c u) (relaxed_length g ls (is_air ls) b c u ∙ l.u_length) e

  pub after_sweep_up : (ls cs : List ℕ) → x ≡ swept_up g ls cs (b_of (cells g) s) (u_of (cells g) s) ++ drop (cells g) s
      → Laid (cells g) (swept_up g ls cs b u) b t r x
  after_sweep_up ls cs e = front (swept_up g ls cs) (swept_up_length g ls cs b u ∙ l.u_length) e

  pub after_sweep_down : (ls cs : List ℕ) → x ≡ swept_down g ls cs (b_of (cells g) s) (u_of (cells g) s) ++ drop (cells g) s
      → Laid (cells g) (swept_down g ls cs b u) b t r x
  after_sweep_down ls cs e = front (swept_down g ls cs) (swept_down_length g ls cs b u ∙ l.u_length) e

  pub after_jacobi : (ls : List ℕ) → x ≡ jacobi g ls (b_of (cells g) s) (u_of (cells g) s) ++ (b_of (cells g) s ++ (u_of (cells g) s ++ drop (3 * cells g) s))
      → Laid (cells g) (jacobi g ls b u) b u r x
  after_jacobi ls e =
      record { is = e ∙ rw (laid_b l, laid_u l, laid_follows l); u_length = jacobi_length g ls b u; b_length = l.b_length; t_length = l.u_length }

  pub after_residual : (ls : List ℕ) → x ≡ u_of (cells g) s ++ (b_of (cells g) s ++ (residue g ls (b_of (cells g) s) (u_of (cells g) s) ++ drop (3 * cells g) s))
      → Laid (cells g) u b (residue g ls b u) r x
  after_residual ls e =
      record { is = e ∙ rw (laid_b l, laid_u l, laid_follows l); u_length = l.u_length; b_length = l.b_length; t_length = residue_length g ls b u }
