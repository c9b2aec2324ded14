-- What it says that the sides fit, in both directions. Assumes nothing.
use mathlib.Core.Path.{◌≡◌, sym, ap₂, subst}
use mathlib.Core.Bool.{true, ◌&&◌}
use Prim.Native.Nat.{ℕ, ◌≤◌}
use lib.Dec.{T, leb, leb→le}
use borrow.Author.Tests.{le-leb}
use Rattle.method.specs.declared.Sides.{Sides}
use Rattle.method.specs.Cast.{between, sides_fit}
use Rattle.laws.proofs.Bools.{and_l, and_r}
use Rattle.theory.specs.Sides.{Fit}

pub from : (lo hi x : ℕ) → T (between lo hi x) → lo ≤ x
unfolding between
from lo hi x t = leb→le lo x (and_l (leb lo x) (leb x hi) t)

pub to : (lo hi x : ℕ) → T (between lo hi x) → x ≤ hi
unfolding between
to lo hi x t = leb→le x hi (and_r (leb lo x) (leb x hi) t)

pub fit : (s : Sides) → sides_fit s ≡ true → Fit s
unfolding sides_fit
fit s e =
    let t : T (between 1 32 s.nx && (between 1 32 s.ny && between 1 32 s.nz)) = subst T (sym e) tt in
    let x = and_l (between 1 32 s.nx) (between 1 32 s.ny && between 1 32 s.nz) t in
    let r = and_r (between 1 32 s.nx) (between 1 32 s.ny && between 1 32 s.nz) t in
    let y = and_l (between 1 32 s.ny) (between 1 32 s.nz) r in
    let z = and_r (between 1 32 s.ny) (between 1 32 s.nz) r in
    record {
      nx_one = from 1 32 s.nx x;
      nx_32 = to 1 32 s.nx x;
      ny_one = from 1 32 s.ny y;
      ny_32 = to 1 32 s.ny y;
      nz_one = from 1 32 s.nz z;
      nz_32 = to 1 32 s.nz z;
    }

between_in : (lo hi x : ℕ) → lo ≤ x → x ≤ hi → between lo hi x ≡ true
unfolding between
between_in lo hi x h k = ap₂ ◌&&◌ (le-leb lo x h) (le-leb x hi k)

pub fits : (s : Sides) → Fit s → sides_fit s ≡ true
unfolding sides_fit
fits s z =
    ap₂ ◌&&◌ (between_in 1 32 s.nx z.nx_one z.nx_32)
    (ap₂ ◌&&◌ (between_in 1 32 s.ny z.ny_one z.ny_32) (between_in 1 32 s.nz z.nz_one z.nz_32))
