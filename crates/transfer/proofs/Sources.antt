-- A source row is added to all cells of a target row: what these hold then, cell by cell; and after all source rows.
-- Assumes nothing.
use Prim.Native.Nat.{ℕ, zero, suc, ◌+◌, ◌-◌, ◌*◌, ◌/◌, ◌%◌, ◌<◌, ◌≤◌}
use mathlib.Core.Path.{◌≡◌, refl, sym, ap, ap₂, ◌∙◌}
use mathlib.Core.Logic.{◌⊎◌, inl, inr, ⊎_elim}
use mathlib.Core.Bool.{Bool, true, false, ◌&&◌, cond}
use mathlib.Core.List.{List}
use native.Mathlib.Nat.{eq-zero-or-pos}
use native.Mathlib.Omega.{arith}
use borrow.Author.Tests.{eq-eqb, ne_eqb, lt-ltb, le-ltb, le-leb, lt-leb}
use lib.Dec.{ltb, leb}
use lib.ListN.{length, get_or, take, drop, length-drop}
use lib.Seq.{get_or-take, get_or-drop, length-take-le}
use lib.Ieee.{Float, nan}
use Rattle.laws.specs.Loops.{up}
use Rattle.laws.specs.Binary64.{◌⊕◌, ◌⊗◌, +0, ofℕ}
use Rattle.laws.proofs.Naturals.{le_or_lt}
use Rattle.laws.proofs.Loops.{ups}
use Rattle.laws.proofs.Fill.{part_take, part_drop}
use Rattle.method.specs.declared.Sides.{Sides}
use Rattle.method.specs.Cast.{cells, number}
use Rattle.method.specs.Transfers.{axis_weight, value}
use Rattle.theory.proofs.Numbers.{number_in}
use Rattle.grid.specs.Place.{in_box, place_at}
use Rattle.transfer.specs.Transfer.{weight_of}
use Rattle.transfer.specs.Rows.{Stretch, row_term, four, two, Share, row_step, Rows, Spread, source_step, plain_term, four_of, two_of}
use Rattle.transfer.proofs.Stretch.{stretch_cell, stretch_part, stretch_long, stretch_again, stretch_same, stretch_filled, value_left}
use Rattle.transfer.proofs.RowLaws.{cell_none, cell_in, cell_out}
use Rattle.transfer.proofs.Plain.{InBox, in_box_lem, place_number, inside_place, outside_place}

-- ---- the row at b, c of a field u
pub record RowOf (u : List Float) (g : Sides) (b c : ℕ) (row : List Float) : Type 0 where
  pub inside : InBox g 1 b c
  pub long : length row ≡ g.nx
  pub same : (p : ℕ) → 0 < p → p ≤ g.nx → value row (p - 1) ≡ value u (place_at g p b c)

-- a term of it is one of the field's
module _ {u : List Float} {g : Sides} {b c : ℕ} {row : List Float} (h : RowOf u g b c row) where
  by : (t : Bool) (p w : ℕ) (a : Float) → (ltb 0 p && (leb p g.nx && true)) ≡ t → cond t (a ⊕ ofℕ w ⊗ value u (place_at g p b c)) a ≡ plain_term u g p b c w a
  unfolding plain_term
  by t p w a e =
      let i = h.inside in
      rw (lt-ltb 0 b i.y_low, le-leb b g.ny i.y_high, lt-ltb 0 c i.z_low, le-leb c g.nz i.z_high)
      (ap (λ t. cond t (a ⊕ ofℕ w ⊗ value u (place_at g p b c)) a) (sym e))

  term_same : (p w : ℕ) (a : Float) → row_term row p (ofℕ w) a ≡ plain_term u g p b c w a
  term_same p w a = ⊎_elim
      (λ l. sym (cell_none row p (ofℕ w) a (omega arith)) ∙ by false p w a (rw (le-ltb 0 p l)))
      (λ l. ⊎_elim
      (λ k. sym (cell_in row p (ofℕ w) a (λ z. omega arith) (omega (arith, h.long))) ∙ ap (λ x. a ⊕ ofℕ w ⊗ x) (h.same p l k) ∙ by true p w a (rw (lt-ltb 0 p l, le-leb p g.nx k)))
      (λ k. sym (cell_out row p (ofℕ w) a (omega (arith, h.long))) ∙ by false p w a (rw (lt-ltb 0 p l, lt-leb p g.nx k)))
      (le_or_lt p g.nx))
      (le_or_lt p 0)

  -- the four, and the two
  pub four_of_lem : (x j k : ℕ) (a : Float) → four row (ofℕ (weight_of 0 j k)) (ofℕ (weight_of 1 j k)) x a ≡ four_of u g x b c j k a
  unfolding four four_of weight_of axis_weight
  four_of_lem x j k a =
      term_same (2 * x + 3) (weight_of 0 j k) _
      ∙ ap (plain_term u g (2 * x + 3) b c (weight_of 0 j k))
      (term_same (2 * x + 2) (weight_of 1 j k) _
      ∙ ap (plain_term u g (2 * x + 2) b c (weight_of 1 j k))
      (term_same (2 * x + 1) (weight_of 1 j k) _ ∙ ap (plain_term u g (2 * x + 1) b c (weight_of 1 j k)) (term_same (2 * x) (weight_of 0 j k) a)))

  -- the lower under the weight of place p, which is that of r, and the upper under that of q, which is that of s
  both : (x j k : ℕ) (a : Float) (p q r s : ℕ) → axis_weight r ≡ axis_weight p → axis_weight s ≡ axis_weight q
      → row_term row ((x + 1) / 2 + 1) (ofℕ (weight_of s j k)) (row_term row ((x + 1) / 2) (ofℕ (weight_of r j k)) a)
      ≡ plain_term u g ((x + 1) / 2 + 1) b c (weight_of q j k) (plain_term u g ((x + 1) / 2) b c (weight_of p j k) a)
  unfolding weight_of
  both x j k a p q r s d e =
      ap₂ (λ m n. row_term row ((x + 1) / 2 + 1) (ofℕ (m * (axis_weight j * axis_weight k))) (row_term row ((x + 1) / 2) (ofℕ (n * (axis_weight j * axis_weight k))) a)) e d
      ∙ term_same ((x + 1) / 2 + 1) (weight_of q j k) _ ∙ ap (plain_term u g ((x + 1) / 2 + 1) b c (weight_of q j k)) (term_same ((x + 1) / 2) (weight_of p j k) a)

  pub two_of_lem : (x j k : ℕ) (a : Float) → two row (ofℕ (weight_of 0 j k)) (ofℕ (weight_of 1 j k)) x a ≡ two_of u g x b c j k a
  unfolding two two_of axis_weight
  two_of_lem x j k a = ⊎_elim
      (λ l.
      let e : 1 - x % 2 ≡ 1 = omega arith in
      let f : 3 - x % 2 ≡ 3 = omega arith in
      rw (eq-eqb (x % 2) 0 l, e, f) (both x j k a 3 1 0 1 refl refl))
      (λ l.
      let e : 1 - x % 2 ≡ 0 = omega arith in
      let f : 3 - x % 2 ≡ 2 = omega arith in
      rw (ne_eqb (x % 2) 0 (λ z. omega arith), e, f) (both x j k a 2 0 1 0 refl refl))
      (eq-zero-or-pos (x % 2))

-- ---- a row that is outside the box adds nothing
module _ (u : List Float) (g : Sides) (b c : ℕ) (some : 1 ≤ g.nx) (h : in_box g 1 b c ≡ false) where
  none : (p w : ℕ) (a : Float) → plain_term u g p b c w a ≡ a
  unfolding plain_term
  none p w a = ap (λ t. cond t (a ⊕ ofℕ w ⊗ value u (place_at g p b c)) a) (no (ltb 0 p) (leb p g.nx) _ (rw (le-leb 1 g.nx some) at h))
    where
      no : (a b c : Bool) → c ≡ false → (a && (b && c)) ≡ false
      no true true c e = e
      no true false c e = refl
      no false b c e = refl

  pub four_none : (x j k : ℕ) (a : Float) → four_of u g x b c j k a ≡ a
  unfolding four_of
  four_none x j k a = none _ _ _ ∙ none _ _ _ ∙ none _ _ _ ∙ none _ _ a

  pub two_none : (x j k : ℕ) (a : Float) → two_of u g x b c j k a ≡ a
  unfolding two_of
  two_none x j k a = none _ _ _ ∙ none _ _ a

-- ---- the row of targets, after a source row that it doesn't meet
pub row_filled : (share : Share) (f n o m : ℕ) (w v : Float) (e s : List Float) → (f + n ≤ o) ⊎ (o + m ≤ f) → o + m ≤ length e → s ≡ up (row_step share f n o w v) m e
    → Stretch (λ i. share (take n (drop f e)) w v i (value e (o + i))) o m e s
row_filled share f n o m w v e s apart room q =
    stretch_filled (λ i t. share (take n (drop f t)) w v i (value t (o + i))) o m e s room
    (λ i t l front end. ap₂ (λ row a. share row w v i a) (⊎_elim
    (λ k. sym (part_take f n o t k) ∙ ap (λ t. take n (drop f t)) front ∙ part_take f n o e k)
    (λ k. ap (take n) (sym (part_drop (o + i) f t (omega arith)) ∙ ap (drop (f - (o + i))) end ∙ part_drop (o + i) f e (omega arith)))
    apart)
    (value_left (o + i) (o + i) e t (omega arith) end))
    q

-- ---- a source row of the room is that of the field
box_of : (g : Sides) (b c : ℕ) → place_at g 1 b c < cells g → InBox g 1 b c
box_of g b c l = go (in_box g 1 b c) refl
  where
    go : (t : Bool) → in_box g 1 b c ≡ t → InBox g 1 b c
    go true e = in_box_lem g 1 b c e
    go false e = absurd (omega (arith, outside_place g 1 b c e))

module _ (g : Sides) (from b c : ℕ) (s : List Float) (inside : InBox g 1 b c) (room : from + cells g ≤ length s) where
  row_start : place_at g 1 b c ≡ g.nx * (b - 1 + g.ny * (c - 1))
  unfolding number
  row_start = place_number g 1 b c inside ∙ omega arith

  row_end : place_at g 1 b c + g.nx ≤ cells g
  unfolding number
  row_end =
      let i = inside in
      omega (arith, row_start, number_in g (g.nx - 1) (b - 1) (c - 1) (omega (arith, i.x_high)) (omega (arith, i.y_low, i.y_high)) (omega (arith, i.z_low, i.z_high)), i.x_high)

  pub source_row : RowOf (take (cells g) (drop from s)) g b c (take g.nx (drop (from + place_at g 1 b c) s))
  unfolding number
  source_row = record {
    inside = inside;
    long = length-take-le g.nx (drop (from + place_at g 1 b c) s) (omega (arith, length-drop (from + place_at g 1 b c) s, row_end));
    same = λ p p0 p1.
        let i = inside in
        let n = number g (p - 1) (b - 1) (c - 1) in
        let in_p : InBox g p b c = record { x_low = p0; x_high = p1; y_low = i.y_low; y_high = i.y_high; z_low = i.z_low; z_high = i.z_high } in
        let l : number g (p - 1) (b - 1) (c - 1) < cells g = number_in g (p - 1) (b - 1) (c - 1) (omega arith) (omega (arith, i.y_low, i.y_high)) (omega (arith, i.z_low, i.z_high)) in
        let k : from + place_at g 1 b c + (p - 1) ≡ from + number g (p - 1) (b - 1) (c - 1) = omega (arith, row_start) in
        get_or-take g.nx (drop (from + place_at g 1 b c) s) (p - 1) nan (omega arith)
        ∙ get_or-drop (from + place_at g 1 b c) s (p - 1) nan
        ∙ ap (λ i. get_or s i nan) k
        ∙ sym (get_or-drop from s n nan)
        ∙ sym (get_or-take (cells g) (drop from s) n nan l)
        ∙ ap (λ i. get_or (take (cells g) (drop from s)) i nan) (sym (place_number g p b c in_p));
  }

-- ---- the row at b, c, as the code takes it
module _ (g : Sides) (n from o m y z b c at : ℕ) (e : List Float) (q : at ≡ place_at g 1 b c) (h : Spread g n from o m y z e) where
  pub source_rows : at < n → Rows (from + at) g.nx o m e
  source_rows l = record {
    source = omega (arith, h.all, h.source, row_end g from b c e (box_of g b c (omega (arith, h.all))) (omega (arith, h.all, h.source)));
    target = h.target;
    some = h.fits.nx_one;
    short = h.fits.nx_32;
    narrow = h.narrow;
  }

  pub source_in : (share : Share) (j k : ℕ) (w v : Float) (s : List Float) → at < n → w ≡ ofℕ (weight_of 0 j k) → v ≡ ofℕ (weight_of 1 j k)
      → s ≡ up (row_step share (from + at) g.nx o w v) m e → s ≡ source_step share g from o m b c j k e
  unfolding source_step
  source_in share j k w v s l a d p =
      rw (lt-ltb (place_at g 1 b c) (cells g) (omega (arith, h.all)))
      (p ∙ ap₂ (λ w v. up (row_step share (from + at) g.nx o w v) m e) a d ∙ ap (λ i. up (row_step share (from + i) g.nx o (ofℕ (weight_of 0 j k)) (ofℕ (weight_of 1 j k))) m e) q)

  -- the same, with the places among the four as they are worked out
  pub source_as : (share : Share) (j k j' k' : ℕ) (w v : Float) (s : List Float) → j ≡ j' → k ≡ k' → at < n → w ≡ ofℕ (weight_of 0 j k) → v ≡ ofℕ (weight_of 1 j k)
      → s ≡ up (row_step share (from + at) g.nx o w v) m e → s ≡ source_step share g from o m b c j' k' e
  source_as share j k j' k' w v s x y l a d p =
      source_in share j' k' w v s l (a ∙ ap₂ (λ i r. ofℕ (weight_of 0 i r)) x y) (d ∙ ap₂ (λ i r. ofℕ (weight_of 1 i r)) x y) p

  pub source_out : (share : Share) (j k : ℕ) → n ≤ at → e ≡ source_step share g from o m b c j k e
  unfolding source_step
  source_out share j k l = rw (le-ltb (place_at g 1 b c) (cells g) (omega (arith, h.all)))

pub spread_kept : (g : Sides) (n from o m y z : ℕ) (e s : List Float) → Spread g n from o m y z e → length s ≡ length e → Spread g n from o m y z s
spread_kept g n from o m y z e s h l = record {
  fits = h.fits;
  all = h.all;
  source = omega (arith, h.source);
  target = omega (arith, h.target);
  narrow = h.narrow;
  y_32 = h.y_32;
  z_32 = h.z_32;
}

pub ruleset spreads = (ups, source_rows, source_in, source_out, spread_kept)

-- ---- one source row more, for either share
module _ (share : Share) (shared : List Float → Sides → ℕ → ℕ → ℕ → ℕ → ℕ → Float → Float)
    (in_row : (u : List Float) (g : Sides) (b c : ℕ) (row : List Float) → RowOf u g b c row
    → (x j k : ℕ) (a : Float) → share row (ofℕ (weight_of 0 j k)) (ofℕ (weight_of 1 j k)) x a ≡ shared u g x b c j k a)
    (out-row : (u : List Float) (g : Sides) (b c : ℕ) → 1 ≤ g.nx → in_box g 1 b c ≡ false → (x j k : ℕ) (a : Float) → shared u g x b c j k a ≡ a)
    (g : Sides) (some : 1 ≤ g.nx) (from o m : ℕ) (apart : (from + cells g ≤ o) ⊎ (o + m ≤ from)) (e : List Float) (source : from + cells g ≤ length e) (target : o + m ≤ length e) where
  -- the source field
  abbrev field : List Float
  field = take (cells g) (drop from e)

  one_more : (f : ℕ → Float) (s : List Float) (b c j k : ℕ) → Stretch f o m e s → Stretch (λ x. shared field g x b c j k (f x)) o m e (source_step share g from o m b c j k s)
  unfolding source_step
  one_more f s b c j k h = go (in_box g 1 b c) refl
    where
      go : (t : Bool) → in_box g 1 b c ≡ t → Stretch (λ x. shared field g x b c j k (f x)) o m e (source_step share g from o m b c j k s)
      go false i =
          rw (le-ltb (place_at g 1 b c) (cells g) (omega (arith, outside_place g 1 b c i)))
          (stretch_same target h (λ x l. sym (out-row field g b c some i x j k (f x))))
      go true i =
          let at = place_at g 1 b c in
          let inside = in_box_lem g 1 b c i in
          let long = stretch_long target h in
          let fits : from + cells g ≤ length s = omega arith in
          let end : place_at g 1 b c + g.nx ≤ cells g = row_end g from b c s inside fits in
          let away : (from + place_at g 1 b c + g.nx ≤ o) ⊎ (o + m ≤ from + place_at g 1 b c) = ⊎_elim (λ l. inl (omega arith)) (λ l. inr (omega arith)) apart in
          let same : take (cells g) (drop from s) ≡ field = stretch_part target h from (cells g) apart in
          let row = source_row g from b c s inside fits in
          rw (lt-ltb (place_at g 1 b c) (cells g) (inside_place g 1 b c i))
          (stretch_again target h
          (stretch_same (omega arith)
          (row_filled share (from + at) g.nx o m (ofℕ (weight_of 0 j k)) (ofℕ (weight_of 1 j k)) s _ away (omega arith) refl)
          (λ x l. in_row _ g b c _ row x j k (value s (o + x)) ∙ ap₂ (λ u a. shared u g x b c j k a) same (stretch_cell target h x l))))

  -- all of them, from a row of zeros
  pub all_rows : (b c j k : ℕ → ℕ) (s : List Float) → Stretch (λ x. +0) o m e s → (r : ℕ)
      → Stretch (λ x. up (λ r. shared field g x (b r) (c r) (j r) (k r)) r +0) o m e (up (λ r. source_step share g from o m (b r) (c r) (j r) (k r)) r s)
  unfolding up
  all_rows b c j k s h zero = h
  all_rows b c j k s h (suc r) = one_more _ _ (b r) (c r) (j r) (k r) (all_rows b c j k s h r)
