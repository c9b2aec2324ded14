-- What the loops over all cells make of the fields. Assumes nothing.
use Prim.Native.Nat.{ℕ, ◌+◌, ◌*◌, ◌≤◌}
use mathlib.Core.Path.{◌≡◌, sym, ap, ◌∙◌}
use mathlib.Core.List.{List, ◌++◌, append_assoc}
use native.Mathlib.Omega.{arith}
use borrow.Author.Rules.{rules}
use lib.ListN.{length, take, drop, length-drop, take-append-drop}
use lib.Seq.{take-add, drop-drop, take_at, drop_at, length-take-le}
use lib.Ieee.{Float}
use Rattle.laws.specs.Binary64.{+0}
use Rattle.laws.specs.Lists.{tab}
use Rattle.method.specs.declared.Sides.{Sides}
use Rattle.method.specs.Cast.{cells}
use Rattle.method.specs.Cycle.{jacobi, zeros}
use Rattle.method.specs.Rooms.{cleared}
use Rattle.rooms.proofs.Clears.{cleared_tab, zero_bits}
use Rattle.smooth.specs.Fields.{u_of, b_of, t_of, Laid}

-- ---- a part of a room becomes zero
pub clear_is : (g : Sides) (n : ℕ) (s t : List Float) → n ≡ cells g → t ≡ cleared n +0 s → t ≡ zeros g ++ drop (cells g) s
unfolding zeros
clear_is g n s t h e = e ∙ cleared_tab +0 n s ∙ ap (λ m. tab m (λ c. +0) ++ drop m s) h

-- ---- the old u in t
pub keep_is : (n : ℕ) (s t : List Float) → t ≡ take (2 * n) s ++ take n s ++ drop (2 * n + n) s → t ≡ take (2 * n) s ++ (take n s ++ drop (3 * n) s)
keep_is n s t e =
    let three : 2 * n + n ≡ 3 * n = omega arith in
    e ∙ append_assoc (take (2 * n) s) (take n s) (drop (2 * n + n) s) ∙ ap (λ m. take (2 * n) s ++ (take n s ++ drop m s)) three

-- the first two fields, by name
pub fields : (n : ℕ) (s r : List Float) → take (2 * n) s ++ r ≡ u_of n s ++ (b_of n s ++ r)
fields n s r =
    let two : 2 * n ≡ n + n = omega arith in
    ap (λ m. take m s ++ r) two ∙ ap (λ l. l ++ r) (take-add n n s) ∙ append_assoc (take n s) (take n (drop n s)) r

-- ---- the fields of a room that is laid out
pub laid : (n : ℕ) (s : List Float) → 3 * n ≤ length s → Laid n (u_of n s) (b_of n s) (t_of n s) (drop (3 * n) s) s
laid n s h =
    let three : 2 * n + n ≡ 3 * n = omega arith in
    let tail : drop (2 * n) s ≡ t_of n s ++ drop (3 * n) s =
    sym (take-append-drop n (drop (2 * n) s)) ∙ ap (λ l. t_of n s ++ l) (drop-drop n (2 * n) s ∙ ap (λ m. drop m s) three) in
    record {
      is = sym (take-append-drop (2 * n) s) ∙ ap (λ l. take (2 * n) s ++ l) tail ∙ fields n s (t_of n s ++ drop (3 * n) s);
      u_length = length-take-le n s (omega arith);
      b_length = length-take-le n (drop n s) (omega (arith, length-drop n s));
      t_length = length-take-le n (drop (2 * n) s) (omega (arith, length-drop (2 * n) s));
    }

module _ {n : ℕ} {u b t r s : List Float} (l : Laid n u b t r s) where
  pub laid_u : u_of n s ≡ u
  laid_u = ap (take n) l.is ∙ take_at u (b ++ (t ++ r)) n l.u_length

  pub laid_rest : drop n s ≡ b ++ (t ++ r)
  laid_rest = ap (drop n) l.is ∙ drop_at u (b ++ (t ++ r)) n l.u_length

  pub laid_b : b_of n s ≡ b
  laid_b = ap (take n) laid_rest ∙ take_at b (t ++ r) n l.b_length

  laid_tail : drop (2 * n) s ≡ t ++ r
  laid_tail =
      let two : 2 * n ≡ n + n = omega arith in
      ap (λ m. drop m s) two ∙ sym (drop-drop n n s) ∙ ap (drop n) laid_rest ∙ drop_at b (t ++ r) n l.b_length

  pub laid_t : t_of n s ≡ t
  laid_t = ap (take n) laid_tail ∙ take_at t r n l.t_length

  pub laid_follows : drop (3 * n) s ≡ r
  laid_follows =
      let three : 3 * n ≡ 2 * n + n = omega arith in
      ap (λ m. drop m s) three ∙ sym (drop-drop n (2 * n) s) ∙ ap (drop n) laid_tail ∙ drop_at t r n l.t_length

-- ---- Jacobi: the old u in t, then u from it
pub jacobi_from : (g : Sides) (ls : List ℕ) (n : ℕ) (u b r m : List Float) → Laid n u b u r m
    → jacobi g ls (b_of n m) (t_of n m) ++ drop n m ≡ jacobi g ls b u ++ (b ++ (u ++ r))
jacobi_from g ls n u b r m l = rw (laid_b l, laid_t l, laid_rest l)

pub ruleset fills = (rules, zero_bits, clear_is, keep_is)
