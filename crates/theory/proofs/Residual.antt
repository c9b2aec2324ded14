-- The residual of the meaning is the operator of the bound: the neighbours as links between cells. Assumes nothing.
use mathlib.Core.Path.{◌≡◌, refl, sym, ap, ◌∙◌}
use mathlib.Core.Bool.{Bool, true, false, cond, false≢true}
use mathlib.Core.List.{List, [], ◌∷◌}
use Prim.Native.Nat.{ℕ, ◌+◌, ◌*◌, ◌<◌, ◌≤◌}
use native.Mathlib.Omega.{arith}
use lib.Dec.{T, ltb, ltb→lt, nltb→le}
use borrow.Author.Tests.{lt-ltb}
use lib.IntN.{ℤ, pos}
use lib.ListN.{length, get_or, get_or-eq_default}
use Rattle.laws.specs.Lists.{over}
use Rattle.laws.specs.Whole.{◌+ᶻ◌, ◌-ᶻ◌, ◌*ᶻ◌, neg}
use Rattle.laws.proofs.Zed.{at, lin, z_eq}
use Rattle.laws.proofs.Sums.{sum, sum_cong, sum_zero, sum_add}
use Rattle.method.specs.declared.Sides.{Sides}
use Rattle.method.specs.Cast.{cells, label_at, no_wall, around, degree, sum_around, residual}
use Rattle.laws.proofs.Bools.{split}
use Rattle.theory.proofs.Bound.{lap, keep}
use Rattle.theory.proofs.Region.{resid}
use Rattle.theory.specs.Totals.{one_if}
use Rattle.theory.proofs.Hits.{same, hits, zero_times, sum_delta}

-- what the neighbours of a list take from u i, as one sum over the cells
unfoldable pub taken : ℕ → (ℕ → Bool) → (ℕ → ℤ) → ℕ → List ℕ → ℤ
taken n op u i l = sum n (λ j. pos (one_if (op j) * hits l j) *ᶻ (u i -ᶻ u j))

module _ (n : ℕ) (op : ℕ → Bool) (u : ℕ → ℤ) (i : ℕ) (inside : (x : ℕ) → T (op x) → x < n) where
  taken_none : taken n op u i [] ≡ pos 0
  unfolding taken hits
  taken_none =
      sum_cong n (λ j. pos (one_if (op j) * 0) *ᶻ (u i -ᶻ u j)) (λ j. pos 0) (λ j l. zero_times (u i -ᶻ u j) (one_if (op j) * 0) (omega arith)) ∙ sum_zero n

  taken_more : (x : ℕ) (l : List ℕ) → taken n op u i (x ∷ l) ≡ keep (op x) (u i -ᶻ u x) +ᶻ taken n op u i l
  unfolding taken hits
  taken_more x l =
      sum_cong n
      (λ j. pos (one_if (op j) * (same x j + hits l j)) *ᶻ (u i -ᶻ u j))
      (λ j. pos (same x j) *ᶻ keep (op j) (u i -ᶻ u j) +ᶻ pos (one_if (op j) * hits l j) *ᶻ (u i -ᶻ u j))
      (λ j k. part (op j) (same x j) (hits l j) (u i -ᶻ u j))
      ∙ sum_add n (λ j. pos (same x j) *ᶻ keep (op j) (u i -ᶻ u j)) (λ j. pos (one_if (op j) * hits l j) *ᶻ (u i -ᶻ u j))
      ∙ ap (λ z. z +ᶻ sum n (λ j. pos (one_if (op j) * hits l j) *ᶻ (u i -ᶻ u j)))
      (sum_delta n x (λ j. keep (op j) (u i -ᶻ u j)) ∙ here (op x) (λ t. lt-ltb x n (inside x t)))
    where
      part : (b : Bool) (p q : ℕ) (z : ℤ) → pos (one_if b * (p + q)) *ᶻ z ≡ pos p *ᶻ keep b z +ᶻ pos (one_if b * q) *ᶻ z
      part true p q z = let Z = at z in z_eq (search lin) (omega arith)
      part false p q z = let Z = at z in z_eq (search lin) (omega arith)

      kept : (c : Bool) (z : ℤ) → c ≡ true → keep c z ≡ z
      kept true z e = refl
      kept false z e = absurd (false≢true e)

      none : (c : Bool) → keep c (pos 0) ≡ pos 0
      none true = refl
      none false = refl

      here : (b : Bool) → (T b → ltb x n ≡ true) → keep (ltb x n) (keep b (u i -ᶻ u x)) ≡ keep b (u i -ᶻ u x)
      here true f = kept (ltb x n) (u i -ᶻ u x) (f tt)
      here false f = none (ltb x n)

  -- a running sum r over the neighbours less a running count d times u i
  gathered : (l : List ℕ) (r : ℤ) (d : ℕ)
      → over op (λ j r. r +ᶻ u j) l r -ᶻ pos (over op (λ j d. d + 1) l d) *ᶻ u i ≡ (r -ᶻ pos d *ᶻ u i) -ᶻ taken n op u i l
  unfolding over
  gathered [] r d = nothing (r -ᶻ pos d *ᶻ u i) ∙ ap (λ z. (r -ᶻ pos d *ᶻ u i) -ᶻ z) (sym taken_none)
    where
      nothing : (x : ℤ) → x ≡ x -ᶻ pos 0
      nothing x = let X = at x in z_eq (search lin) (omega arith)
  gathered (x ∷ l) r d = go (op x) (λ r d. gathered l r d) ∙ ap (λ z. (r -ᶻ pos d *ᶻ u i) -ᶻ z) (sym (taken_more x l))
    where
      one : (a b c t : ℤ) (d : ℕ) → ((a +ᶻ b) -ᶻ pos (d + 1) *ᶻ c) -ᶻ t ≡ (a -ᶻ pos d *ᶻ c) -ᶻ ((c -ᶻ b) +ᶻ t)
      one a b c t d = let A = at a in let B = at b in let C = at c in let T' = at t in z_eq (search lin depth 9) (omega arith)

      skip : (a t : ℤ) → a -ᶻ t ≡ a -ᶻ (pos 0 +ᶻ t)
      skip a t = let A = at a in let T' = at t in z_eq (search lin) (omega arith)

      go : (b : Bool) → ((r : ℤ) (d : ℕ) → over op (λ j r. r +ᶻ u j) l r -ᶻ pos (over op (λ j d. d + 1) l d) *ᶻ u i ≡ (r -ᶻ pos d *ᶻ u i) -ᶻ taken n op u i l)
          → over op (λ j r. r +ᶻ u j) l (cond b (r +ᶻ u x) r) -ᶻ pos (over op (λ j d. d + 1) l (cond b (d + 1) d)) *ᶻ u i ≡ (r -ᶻ pos d *ᶻ u i) -ᶻ (keep b (u i -ᶻ u x) +ᶻ taken n op u i l)
      go true rec = rec (r +ᶻ u x) (d + 1) ∙ one r (u x) (u i) (taken n op u i l) d
      go false rec = rec r d ∙ skip (r -ᶻ pos d *ᶻ u i) (taken n op u i l)

-- ---- the cast
-- a cell that is no wall is in the box
pub inside : (n : ℕ) (ls : List ℕ) → length ls ≡ n → (x : ℕ) → T (no_wall ls x) → x < n
unfolding no_wall label_at
inside n ls e x t = split (ltb x n) (λ y. ltb→lt x n y) (λ y. absurd (out (nltb→le x n y)))
  where
    out : n ≤ x → ⊥
    out h = omega (arith, ltb→lt (get_or ls x 2) 2 t, get_or-eq_default ls 2 {n = x} (omega arith))

-- the number of links between two cells: as often as one is the other's neighbour, where neither is wall
unfoldable pub link : Sides → List ℕ → ℕ → ℕ → ℕ
link s ls i j = one_if (no_wall ls i) * (one_if (no_wall ls j) * hits (around s i) j)

-- at a cell that is no wall the residual is the operator's
pub residual_is : (s : Sides) (ls : List ℕ) (source p : ℕ → ℤ) → length ls ≡ cells s → (i : ℕ) → T (no_wall ls i)
    → residual s ls source p i ≡ resid (cells s) (link s ls) source p i
unfolding residual sum_around degree resid lap link taken
residual_is s ls source p e i t =
    shift (source i) (over (no_wall ls) (λ j r. r +ᶻ p j) (around s i) (pos 0)) (pos (over (no_wall ls) (λ j d. d + 1) (around s i) 0) *ᶻ p i)
    ∙ ap (λ z. source i +ᶻ z) (gathered (cells s) (no_wall ls) p i (inside (cells s) ls e) (around s i) (pos 0) 0 ∙ unzero (p i) (taken (cells s) (no_wall ls) p i (around s i)))
    ∙ ap (λ z. source i -ᶻ z) (linked (no_wall ls i) t)
  where
    shift : (a b c : ℤ) → a +ᶻ b -ᶻ c ≡ a +ᶻ (b -ᶻ c)
    shift a b c = let A = at a in let B = at b in let C = at c in z_eq (search lin) (omega arith)

    unzero : (x t : ℤ) → (pos 0 -ᶻ pos 0 *ᶻ x) -ᶻ t ≡ neg t
    unzero x t = let X = at x in let T' = at t in z_eq (search lin depth 9) (omega arith)

    linked : (b : Bool) → T b → taken (cells s) (no_wall ls) p i (around s i) ≡ sum (cells s) (λ j. pos (one_if b * (one_if (no_wall ls j) * hits (around s i) j)) *ᶻ (p i -ᶻ p j))
    linked true t = sum_cong (cells s)
        (λ j. pos (one_if (no_wall ls j) * hits (around s i) j) *ᶻ (p i -ᶻ p j))
        (λ j. pos (1 * (one_if (no_wall ls j) * hits (around s i) j)) *ᶻ (p i -ᶻ p j))
        (λ j l. ap (λ q. pos q *ᶻ (p i -ᶻ p j)) (omega arith))
    linked false t = absurd t
