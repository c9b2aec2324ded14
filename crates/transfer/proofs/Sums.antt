-- The sums of a row of targets, row after row, until every cell has its sum. Assumes nothing.
use Prim.Native.Nat.{ℕ, ◌+◌, ◌-◌, ◌*◌, ◌/◌, ◌%◌, ◌<◌, ◌≤◌}
use mathlib.Core.Path.{◌≡◌, sym, ap, ap₂, ◌∙◌}
use mathlib.Core.Logic.{inl, inr}
use mathlib.Core.List.{List}
use native.Mathlib.Nat.{mul-suc, mul_comm, mul-le-mul_left, mul-zero, mod-lt, div-add-mod, div-lt_iff_lt-mul}
use native.Mathlib.Numerals.{add-one}
use native.Mathlib.Omega.{arith}
use lib.ListN.{length, take, drop}
use lib.Ieee.{Float}
use mir.Syntax.{w64}
use mir.Val.{Fits}
use Rattle.laws.specs.Loops.{up}
use Rattle.laws.specs.Binary64.{+0}
use Rattle.laws.proofs.Loops.{ups}
use Rattle.method.specs.declared.Sides.{Sides}
use Rattle.method.specs.Cast.{cells, number, along}
use Rattle.method.specs.Levels.{half, halved}
use Rattle.theory.specs.Sides.{Fit, x_axis, y_axis, z_axis}
use Rattle.theory.proofs.Sizes.{halved_fit}
use Rattle.theory.proofs.Numbers.{Coordinates, number_coordinates}
use Rattle.grid.proofs.Laws.{small_two}
use Rattle.grid.proofs.Steps.{cells_most}
use Rattle.transfer.specs.Transfer.{TwoLevels}
use Rattle.transfer.specs.Rows.{Stretch, four, two, Halves, Spread, fine_step, coarse_step, four_of, two_of, drawn_at, given_at, drawn_sum, given_sum, Sums}
use Rattle.transfer.proofs.Stretch.{stretch_none, stretch_more, stretch_part, stretch_same}
use Rattle.transfer.proofs.Sources.{four_of_lem, four_none, two_of_lem, two_none, all_rows}

-- ---- rows of a box
module _ (h : Sides) (z : Fit h) (m r : ℕ) (all : m ≡ cells h) (l : r < h.ny * h.nz) where
  row_in : h.nx * r + h.nx ≤ m
  unfolding cells
  row_in = omega (arith, mul-suc h.nx r, mul-le-mul_left h.nx l)

  row_y : r % h.ny < h.ny
  row_y = mod-lt r (omega (arith, z.ny_one))

  row_z : r / h.ny < h.nz
  row_z = (div-lt_iff_lt-mul {k = h.ny} {x = r} {y = h.nz} (omega (arith, z.ny_one))).1 (omega (arith, mul_comm h.ny h.nz))

  -- cell i of row r
  spot : (i : ℕ) → i < h.nx → Coordinates h (h.nx * r + i) i (r % h.ny) (r / h.ny)
  unfolding number
  spot i k =
      let e : i + h.nx * (r % h.ny + h.ny * (r / h.ny)) ≡ h.nx * r + i = omega (arith, ap (λ q. h.nx * q) (div-add-mod r h.ny)) in
      rw e at (number_coordinates h i (r % h.ny) (r / h.ny) k row_y row_z)

pub plane_fits : (h : Sides) → Fit h → Fits w64 (h.ny * h.nz)
plane_fits h z = record { fits = omega (arith, small_two h.ny h.nz z.ny_32 z.nz_32) }

pub row_fits : (h : Sides) (r : ℕ) → Fit h → r < h.ny * h.nz → Fits w64 (r + 1)
row_fits h r z l = record { fits = omega (arith, small_two h.ny h.nz z.ny_32 z.nz_32) }

halves_next : (g : Sides) → Halves g.nx (halved g).nx
unfolding halved half
halves_next g = record { enough = omega arith; few = omega arith }

pub two_sums : (g h : Sides) (ls lc : List ℕ) (e : List Float) → TwoLevels g h ls lc → length lc ≡ cells h → 3 * cells g + 3 * cells h ≤ length e → Sums g h (length ls) (length lc) e
two_sums g h ls lc e z q room = record {
  fits = z.fits;
  below = rw z.next (halved_fit g z.fits);
  next = z.next;
  halves = rw z.next (halves_next g);
  fine = z.all;
  coarse = q;
  room = omega (arith, z.all);
}

pub sums_kept : (g h : Sides) (n m : ℕ) (e s : List Float) → Sums g h n m e → length s ≡ length e → Sums g h n m s
sums_kept g h n m e s z l = record { fits = z.fits; below = z.below; next = z.next; halves = z.halves; fine = z.fine; coarse = z.coarse; room = omega (arith, z.room) }

-- ---- a cell's sum, by its coordinates
drawn_spot : (g h : Sides) (u : List Float) (c i y k : ℕ) → h ≡ halved g → Coordinates h c i y k → drawn_at g u i y k ≡ drawn_sum g u c
unfolding drawn_sum
drawn_spot g h u c i y k e at =
    let p : along (x_axis (halved g)) c ≡ i = ap (λ s. along (x_axis s) c) (sym e) ∙ at.at_x in
    let q : along (y_axis (halved g)) c ≡ y = ap (λ s. along (y_axis s) c) (sym e) ∙ at.at_y in
    let r : along (z_axis (halved g)) c ≡ k = ap (λ s. along (z_axis s) c) (sym e) ∙ at.at_z in
    sym (ap₂ (λ a b. drawn_at g u a b (along (z_axis (halved g)) c)) p q ∙ ap (drawn_at g u i y) r)

given_spot : (g h : Sides) (u : List Float) (c i y k : ℕ) → h ≡ halved g → Coordinates g c i y k → given_at h u i y k ≡ given_sum g u c
unfolding given_sum
given_spot g h u c i y k e at =
    ap (λ s. given_at s u i y k) e ∙ sym (ap₂ (λ a b. given_at (halved g) u a b (along (z_axis g) c)) at.at_x at.at_y ∙ ap (given_at (halved g) u i y) at.at_z)

-- ---- restriction: row r of the coarse cells
module _ (g h : Sides) (n m r : ℕ) (e : List Float) (z : Sums g h n m e) (l : r < h.ny * h.nz) where
  coarse_in : h.nx * r + h.nx ≤ m
  coarse_in = row_in h z.below m r z.coarse l

  pub coarse_fits : Fits w64 (h.nx * r)
  coarse_fits = record { fits = omega (arith, coarse_in, z.coarse, cells_most h z.below) }

  pub coarse_start_fits : Fits w64 (3 * n + m + h.nx * r)
  coarse_start_fits = record { fits = omega (arith, coarse_in, z.coarse, cells_most h z.below, z.fine, cells_most g z.fits) }

  pub coarse_at : 3 * n + m + h.nx * r + h.nx ≤ length e
  coarse_at = omega (arith, coarse_in, z.room)

  pub coarse_spread : (s : List Float) → length s ≡ length e → Spread g n (2 * n) (3 * n + m + h.nx * r) h.nx (r % h.ny) (r / h.ny) s
  coarse_spread s q = record {
    fits = z.fits;
    all = z.fine;
    source = omega (arith, z.room);
    target = omega (arith, coarse_at);
    narrow = z.below.nx_32;
    y_32 = omega (arith, row_y h z.below m r z.coarse l, z.below.ny_32);
    z_32 = omega (arith, row_z h z.below m r z.coarse l, z.below.nz_32);
  }

  pub drawn_row : (s t : List Float) → Stretch (λ i. +0) (3 * n + m + h.nx * r) h.nx e s → t ≡ up (fine_step g (2 * n) (3 * n + m + h.nx * r) h.nx (r % h.ny) (r / h.ny)) 16 s
      → Stretch (λ i. drawn_sum g (take (cells g) (drop (2 * n) e)) (h.nx * r + i)) (3 * n + m + h.nx * r) h.nx e t
  unfolding drawn_at
  drawn_row s t c q =
      let o = 3 * n + m + h.nx * r in
      let y = r % h.ny in
      let k = r / h.ny in
      let v : Stretch (λ i. drawn_at g (take (cells g) (drop (2 * n) e)) i (r % h.ny) (r / h.ny)) (3 * n + m + h.nx * r) h.nx e
      (up (fine_step g (2 * n) (3 * n + m + h.nx * r) h.nx (r % h.ny) (r / h.ny)) 16 s) =
      all_rows four four_of (λ u g b c row w. four_of_lem w) four_none g z.fits.nx_one (2 * n) o h.nx (inl (omega (arith, z.fine))) e (omega (arith, z.fine, z.room)) coarse_at
      (λ r. 2 * y + r % 4) (λ r. 2 * k + r / 4) (λ r. r % 4) (λ r. r / 4) s c 16 in
      rw q (stretch_same coarse_at v (λ i p. drawn_spot g h (take (cells g) (drop (2 * n) e)) (h.nx * r + i) i y k z.next (spot h z.below m r z.coarse l i p)))

  pub drawn_more : (s t : List Float) → Stretch (drawn_sum g (take (cells g) (drop (2 * n) e))) (3 * n + m) (h.nx * r) e s
      → Stretch (λ i. drawn_sum g (take (cells g) (drop (2 * n) s)) (h.nx * r + i)) (3 * n + m + h.nx * r) h.nx s t
      → Stretch (drawn_sum g (take (cells g) (drop (2 * n) e))) (3 * n + m) (h.nx * (r + 1)) e t
  drawn_more s t c q =
      let j = h.nx * r in
      let k : h.nx * (r + 1) ≡ h.nx * r + h.nx = ap (λ i. h.nx * i) (add-one r) ∙ mul-suc h.nx r in
      let same : take (cells g) (drop (2 * n) s) ≡ take (cells g) (drop (2 * n) e) = stretch_part (omega (arith, coarse_at)) c (2 * n) (cells g) (inl (omega (arith, z.fine))) in
      rw k
      (stretch_more (drawn_sum g (take (cells g) (drop (2 * n) e))) (3 * n + m) j h.nx e s t (omega (arith, coarse_at)) c (rw same at q))

pub drawn_all : (g h : Sides) (n m r : ℕ) (e s : List Float) → Sums g h n m e → r ≤ h.ny * h.nz → h.ny * h.nz ≤ r
    → Stretch (drawn_sum g (take (cells g) (drop (2 * n) e))) (3 * n + m) (h.nx * r) e s → Stretch (drawn_sum g (take (cells g) (drop (2 * n) e))) (3 * n + m) m e s
unfolding cells
drawn_all g h n m r e s z a b c =
    let k : r ≡ h.ny * h.nz = omega arith in
    let q : h.nx * r ≡ m = ap (λ i. h.nx * i) k ∙ sym z.coarse in
    rw q at c

pub drawn_none : (g h : Sides) (n m : ℕ) (e : List Float) → Sums g h n m e → Stretch (drawn_sum g (take (cells g) (drop (2 * n) e))) (3 * n + m) (h.nx * 0) e e
drawn_none g h n m e z = rw (mul-zero h.nx) (stretch_none _ (3 * n + m) e (omega (arith, z.room)))

-- ---- prolongation: row r of the fine cells
module _ (g h : Sides) (n m r : ℕ) (e : List Float) (z : Sums g h n m e) (l : r < g.ny * g.nz) where
  fine_in : g.nx * r + g.nx ≤ n
  fine_in = row_in g z.fits n r z.fine l

  pub fine_fits : Fits w64 (g.nx * r)
  fine_fits = record { fits = omega (arith, fine_in, z.fine, cells_most g z.fits) }

  pub fine_start_fits : Fits w64 (2 * n + g.nx * r)
  fine_start_fits = record { fits = omega (arith, fine_in, z.fine, cells_most g z.fits) }

  pub fine_at : 2 * n + g.nx * r + g.nx ≤ length e
  fine_at = omega (arith, fine_in, z.room)

  pub fine_spread : (s : List Float) → length s ≡ length e → Spread h m (3 * n) (2 * n + g.nx * r) g.nx (r % g.ny) (r / g.ny) s
  fine_spread s q = record {
    fits = z.below;
    all = z.coarse;
    source = omega (arith, z.room);
    target = omega (arith, fine_at);
    narrow = z.fits.nx_32;
    y_32 = omega (arith, row_y g z.fits n r z.fine l, z.fits.ny_32);
    z_32 = omega (arith, row_z g z.fits n r z.fine l, z.fits.nz_32);
  }

  pub given_row : (s t : List Float) → Stretch (λ i. +0) (2 * n + g.nx * r) g.nx e s → t ≡ up (coarse_step h (3 * n) (2 * n + g.nx * r) g.nx (r % g.ny) (r / g.ny)) 4 s
      → Stretch (λ i. given_sum g (take (cells h) (drop (3 * n) e)) (g.nx * r + i)) (2 * n + g.nx * r) g.nx e t
  unfolding given_at
  given_row s t c q =
      let o = 2 * n + g.nx * r in
      let y = r % g.ny in
      let k = r / g.ny in
      let v : Stretch (λ i. given_at h (take (cells h) (drop (3 * n) e)) i (r % g.ny) (r / g.ny)) (2 * n + g.nx * r) g.nx e
      (up (coarse_step h (3 * n) (2 * n + g.nx * r) g.nx (r % g.ny) (r / g.ny)) 4 s) =
      all_rows two two_of (λ u g b c row w. two_of_lem w) two_none h z.below.nx_one (3 * n) o g.nx (inr (omega (arith, fine_in))) e (omega (arith, z.coarse, z.room)) fine_at
      (λ r. (y + 1) / 2 + r % 2) (λ r. (k + 1) / 2 + r / 2) (λ r. 3 - y % 2 - 2 * (r % 2)) (λ r. 3 - k % 2 - 2 * (r / 2)) s c 4 in
      rw q (stretch_same fine_at v (λ i p. given_spot g h (take (cells h) (drop (3 * n) e)) (g.nx * r + i) i y k z.next (spot g z.fits n r z.fine l i p)))

  pub given_more : (s t : List Float) → Stretch (given_sum g (take (cells h) (drop (3 * n) e))) (2 * n) (g.nx * r) e s
      → Stretch (λ i. given_sum g (take (cells h) (drop (3 * n) s)) (g.nx * r + i)) (2 * n + g.nx * r) g.nx s t
      → Stretch (given_sum g (take (cells h) (drop (3 * n) e))) (2 * n) (g.nx * (r + 1)) e t
  given_more s t c q =
      let k : g.nx * (r + 1) ≡ g.nx * r + g.nx = ap (λ i. g.nx * i) (add-one r) ∙ mul-suc g.nx r in
      let same : take (cells h) (drop (3 * n) s) ≡ take (cells h) (drop (3 * n) e) = stretch_part (omega (arith, fine_at)) c (3 * n) (cells h) (inr (omega (arith, fine_in))) in
      rw k
      (stretch_more (given_sum g (take (cells h) (drop (3 * n) e))) (2 * n) (g.nx * r) g.nx e s t (omega (arith, fine_at)) c (rw same at q))

pub given_all : (g h : Sides) (n m r : ℕ) (e s : List Float) → Sums g h n m e → r ≤ g.ny * g.nz → g.ny * g.nz ≤ r
    → Stretch (given_sum g (take (cells h) (drop (3 * n) e))) (2 * n) (g.nx * r) e s → Stretch (given_sum g (take (cells h) (drop (3 * n) e))) (2 * n) n e s
unfolding cells
given_all g h n m r e s z a b c =
    let k : r ≡ g.ny * g.nz = omega arith in
    let q : g.nx * r ≡ n = ap (λ i. g.nx * i) k ∙ sym z.fine in
    rw q at c

pub given_none : (g h : Sides) (n m : ℕ) (e : List Float) → Sums g h n m e → Stretch (given_sum g (take (cells h) (drop (3 * n) e))) (2 * n) (g.nx * 0) e e
given_none g h n m e z = rw (mul-zero g.nx) (stretch_none _ (2 * n) e (omega (arith, z.room)))

pub ruleset sums = (ups, plane_fits, row_fits, sums_kept, coarse_fits, coarse_start_fits, coarse_at, coarse_spread, drawn_row, drawn_more, drawn_all, drawn_none, fine_fits, fine_start_fits, fine_at, fine_spread, given_row, given_more, given_all, given_none)
