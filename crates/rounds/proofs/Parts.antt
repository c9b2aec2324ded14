-- A room with a field written anew: that field, those before and after it, and the length. Assumes nothing.
use Prim.Native.Nat.{ℕ, ◌+◌, ◌-◌, ◌≤◌}
use mathlib.Core.Path.{◌≡◌, sym, ap, ◌∙◌}
use mathlib.Core.List.{List, ◌++◌}
use native.Mathlib.Omega.{arith}
use lib.ListN.{length, take, drop, length-append, length-drop}
use lib.Seq.{take_at, drop_at, length-take-le, drop-drop, drop-append-le, take-append-le}
use Rattle.laws.proofs.Fill.{part_take, part_drop}

module _ {A : Type 0} (a n : ℕ) (v e s : List A) (long : length v ≡ n) (fits : a + n ≤ length e) (q : s ≡ take a e ++ (v ++ drop (a + n) e)) where
  front_long : length (take a e) ≡ a
  front_long = length-take-le a e (omega arith)

  pub put_length : length s ≡ length e
  put_length = omega (
    arith,
    ap length q,
    length-append (take a e) (v ++ drop (a + n) e),
    front_long,
    length-append v (drop (a + n) e),
    length-drop (a + n) e,
  )

  from_here : drop a s ≡ v ++ drop (a + n) e
  from_here = ap (drop a) q ∙ drop_at (take a e) (v ++ drop (a + n) e) a front_long

  pub put_here : take n (drop a s) ≡ v
  put_here = ap (take n) from_here ∙ take_at v (drop (a + n) e) n long

  pub put_before : (b m : ℕ) → b + m ≤ a → take m (drop b s) ≡ take m (drop b e)
  put_before b m h =
      ap (λ l. take m (drop b l)) q ∙ ap (take m) (drop-append-le b (take a e) (v ++ drop (a + n) e) (omega (arith, front_long)))
      ∙ take-append-le m (drop b (take a e)) (v ++ drop (a + n) e) (omega (arith, length-drop b (take a e), front_long)) ∙ part_take b m a e h

  pub put_after : (b : ℕ) → a + n ≤ b → drop b s ≡ drop b e
  put_after b h =
      sym (part_drop (a + n) b s h)
      ∙ ap (drop (b - (a + n))) (sym (drop-drop n a s) ∙ ap (drop n) from_here ∙ drop_at v (drop (a + n) e) n long)
      ∙ part_drop (a + n) b e h
