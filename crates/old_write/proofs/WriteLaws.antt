-- Laws of the writer: check 13 by sizes, lengths, the checks in their order, and what it makes of a judgement. Assumes
-- nothing.
use mathlib.Core.Path.{◌≡◌, refl, sym, ap, ap₂, ◌∙◌}
use mathlib.Core.Logic.{⊎_elim}
use mathlib.Core.Bool.{Bool, true, false, not, ◌&&◌, false≢true}
use mathlib.Core.List.{List, ◌++◌}
use Prim.Native.Nat.{ℕ, zero, suc, ◌+◌, ◌*◌, ◌/◌, ◌%◌, ◌^◌, ◌≤◌, ◌<◌}
use native.Mathlib.Omega.{arith}
use borrow.Author.Rules.{rules}
use borrow.Author.Tests.{eq-eqb, ne_eqb, eqb-true, le-leb, lt-leb, lt-ltb, le-ltb, leb-true, not-true, not-false}
use lib.Dec.{leb, eqb, ltb}
use lib.IntN.{ℤ, pos, negsuc, nat_abs}
use lib.Signed.{lt_z, mag}
use lib.ListN.{length, get_or, drop, replicate, length-replicate}
use lib.Seq.{sets-eq}
use mir.Syntax.{w32}
use mir.Val.{SFits, to_z, of_z}
use mir.Facts.{to_z-of_z}
use Rattle.laws.specs.Whole.{neg}
use Rattle.laws.proofs.Naturals.{le_or_lt}
use Rattle.method.specs.declared.Answer.{Answer}
use Rattle.method.specs.declared.Sides.{Sides}
use Rattle.std.specs.Prelude.{Option, Result, Ok, Err}
use Rattle.method.specs.Cast.{cells, sides_fit, first}
use Rattle.method.specs.Answers.{fault, passed, refused, verdict, refusal, done}
use Rattle.method.specs.Rooms.{filled}
use Rattle.method.specs.OldForm.{stored, fits16, expressible, not_expressible, old_written, unit_fits, OldWriting, old_bytes_of, old_lengths_fit, old_writer_checks, old_writing}
use Rattle.theory.specs.Sides.{Fit}
use Rattle.theory.proofs.Sides.{fit}
use Rattle.theory.proofs.Verdicts.{verdict_agree, passes_on, fault_no}
use Rattle.theory.proofs.OldRoundTrip.{unit_from}
use Rattle.checks.specs.Faults.{cell_ruling}
use Rattle.checks.specs.Rulings.{ruling_of, ruling_by, unless, first_of}
use Rattle.answers.specs.Faults.{number_of, place_of}
use Rattle.answers.specs.declared.Fault.{Fault}
use Rattle.answers.specs.declared.Fault.TheVariants.{SideOutOfRange, WrongLength, SettingOutOfRange, Inexpressible}
use Rattle.checks.proofs.RuleLaws.{side_is, length_is, setting_is, inexpressible_is, ruling_last, test_more, test_ends, both_allowed, ruled_well}
use Rattle.checks.proofs.CheckLaws.{cells_ruled}
use Rattle.signed_numbers.proofs.Signs.{below, above}
use Rattle.text_out.specs.Puts.{Put}
use Rattle.old_put.specs.OldPuts.{OldHeaderLength}
use Rattle.old_put.proofs.PartLaws.{written_length}
use Rattle.old_write.specs.OldWrites.{old_offered, OldWriteOf, inexpressible, old_slice_ruling, OldRoomIf, OldRuledOf}

-- ---- 13, by the size of the value
fits_below : (q : ℕ) → leb q 32768 ≡ fits16 (neg (pos q))
unfolding fits16 neg
fits_below zero = le-leb 0 32768 (omega arith) ∙ sym (lt-ltb 0 32768 (omega arith))
fits_below (suc k) =
    ⊎_elim (λ h. le-leb (suc k) 32768 h ∙ sym (lt-ltb k 32768 (omega arith))) (λ h. lt-leb (suc k) 32768 h ∙ sym (le-ltb k 32768 (omega arith))) (le_or_lt (suc k) 32768)

module _ (u : ℕ) (v : ℤ) (f : SFits w32 v) (s : ℕ) (e : s ≡ nat_abs (to_z w32 (of_z w32 v))) where
  size_is : s ≡ nat_abs v
  size_is = e ∙ ap nat_abs (to_z-of_z f)

  pub express_no : (s % u ≡ 0 → ⊥) → false ≡ expressible u v
  unfolding expressible
  express_no g = sym (ap (λ t. t && fits16 (stored u v)) (ne_eqb (nat_abs v % u) 0 (λ q. g (ap (λ k. k % u) size_is ∙ q))))

  module _ (r : s % u ≡ 0) where
    by_stored : fits16 (stored u v) ≡ expressible u v
    unfolding expressible
    by_stored = sym (ap (λ t. t && fits16 (stored u v)) (eq-eqb (nat_abs v % u) 0 (ap (λ k. k % u) (sym size_is) ∙ r)))

    pub express_below : lt_z (to_z w32 (of_z w32 v)) (pos 0) ≡ true → leb (s / u) 32768 ≡ expressible u v
    unfolding stored
    express_below b =
        let w : v ≡ negsuc (mag v) = below v f b in
        fits_below (s / u) ∙ ap (λ k. fits16 (neg (pos (k / u)))) (size_is ∙ ap nat_abs w) ∙ sym (ap (λ z. fits16 (stored u z)) w) ∙ by_stored

    pub express_above : lt_z (to_z w32 (of_z w32 v)) (pos 0) ≡ false → ltb (s / u) 32768 ≡ expressible u v
    unfolding stored fits16
    express_above b =
        let w : v ≡ pos (mag v) = above v f b in
        ap (λ k. ltb (k / u) 32768) (size_is ∙ ap nat_abs w) ∙ sym (ap (λ z. fits16 (stored u z)) w) ∙ by_stored

pub ruleset expressing = (rules, not-true, not-false, express_no, express_below, express_above)

-- the test of a cell
pub cell_test : (u : ℕ) (vs : List ℤ) (c : ℕ) (r : Bool) → mag (get_or vs c (pos 0)) < 2 ^ 31 → r ≡ expressible u (to_z w32 (of_z w32 (get_or vs c (pos 0)))) → not r ≡ inexpressible u vs c
unfolding inexpressible
cell_test u vs c r m e = let f : SFits w32 (get_or vs c (pos 0)) = record { sfits = m } in ap not (e ∙ ap (expressible u) (to_z-of_z f))

pub ruleset searching = (rules, not-true, not-false, cell_test)

and_true : (a b : Bool) → (a && b) ≡ true → (a ≡ true) × (b ≡ true)
and_true true b e = (refl, e)
and_true false b e = absurd (false≢true e)

module _ (s : Sides) (u : ℕ) (ls : List ℕ) (vs : List ℤ) (room : ℕ) where
  abbrev whole : List ℕ
  whole = old_written (record { sides = s; labels = ls; values = vs }) u

  abbrev lent : OldWriting
  lent = old_offered s u ls vs (replicate room 0)

  -- ---- check 2
  module _ (n : ℕ) (c : n ≡ cells s) where
    pub lengths_labels : (length ls ≡ n → ⊥) → false ≡ old_lengths_fit lent
    unfolding old_lengths_fit
    lengths_labels h = rw (ne_eqb (length ls) (cells s) (λ e. h (e ∙ sym c)))

    module _ (h : length ls ≡ n) where
      pub lengths_values : (length vs ≡ n → ⊥) → false ≡ old_lengths_fit lent
      unfolding old_lengths_fit
      lengths_values k = rw (eq-eqb (length ls) (cells s) (h ∙ c), ne_eqb (length vs) (cells s) (λ e. k (e ∙ sym c)))

      pub lengths_room : (m : ℕ) → length vs ≡ n → OldHeaderLength s u m → leb (m + 3 * n) room ≡ old_lengths_fit lent
      unfolding old_lengths_fit
      lengths_room m k l =
          let need : m + 3 * n ≡ length whole = sym (written_length s u ls vs ∙ omega (arith, l.is)) in
          ap (λ m. leb m room) need ∙ rw (eq-eqb (length ls) (cells s) (h ∙ c), eq-eqb (length vs) (cells s) (k ∙ c), length-replicate {A = ℕ} room 0)

  lengths_known : old_lengths_fit lent ≡ true → (length ls ≡ cells s) × ((length vs ≡ cells s) × (length whole ≤ room))
  unfolding old_lengths_fit
  lengths_known e =
      let a = and_true (eqb (length ls) (cells s)) _ e in
      let b = and_true (eqb (length vs) (cells s)) _ a.1 in
      (eqb-true _ _ a.0, (eqb-true _ _ b.0, rw (length-replicate {A = ℕ} room 0) at (leb-true (length whole) _ b.1)))

  -- ---- 2, and then 4, 5 and 13
  module _ (b : Bool) (p : b ≡ old_lengths_fit lent) where
    module _ (e : b ≡ true) (n : ℕ) (c : n ≡ cells s) where
      pub slices_labels : n ≤ length ls
      slices_labels = omega (arith, c, (lengths_known (sym p ∙ e)).0)

      pub slices_values : n ≤ length vs
      slices_values = omega (arith, c, (lengths_known (sym p ∙ e)).1.0)

      pub slices_cells : (o q r : Result (Unit {0}) Fault) (x : Option ℕ) → o ≡ first_of q r → q ≡ cell_ruling ls vs n → r ≡ ruling_by Inexpressible x → x ≡ first (inexpressible u vs) n
          → o ≡ old_slice_ruling lent
      slices_cells o q r x g a d f =
          g ∙ ap₂ first_of (a ∙ ap (cell_ruling ls vs) c) (d ∙ ap (ruling_by Inexpressible) (f ∙ ap (first (inexpressible u vs)) c))
          ∙ sym (ap (λ y. first_of (unless WrongLength y) (first_of (cell_ruling ls vs (cells s)) (ruling_by Inexpressible (first (inexpressible u vs) (cells s))))) (sym p ∙ e))

  room_if : 0 < u → (q : Result (Unit {0}) Fault) → q ≡ old_slice_ruling lent → OldRoomIf u (length whole) room q
  unfolding OldRoomIf
  room_if k (Err d) e = tt
  room_if k (Ok x) e = (k, (lengths_known (ruled_well WrongLength _ (both_allowed (unless WrongLength (old_lengths_fit lent)) _ (sym e)).0)).1.1)

  -- ---- 1 and 3, and then the others
  slices_ruled : (q : Result (Unit {0}) Fault) → q ≡ old_slice_ruling lent → sides_fit s ≡ true → unit_fits u ≡ true → verdict old_writer_checks lent ≡ ruling_of q
  unfolding old_writer_checks not_expressible inexpressible
  slices_ruled q e f g =
      passes_on _ _ lent (fault_no (sides_fit s) f) ∙ passes_on _ _ lent (fault_no (unit_fits u) g)
      ∙ test_more _ WrongLength length_is _ lent (old_lengths_fit lent) _ refl
      (cells_ruled (λ w. w.cast) _ lent (cells s) refl (ruling_by Inexpressible (first (inexpressible u vs) (cells s))) (ruling_last _ Inexpressible inexpressible_is lent (first (inexpressible u vs) (cells s)) refl))
      ∙ ap ruling_of (sym e)

  module _ (a : Result (Unit {0}) Fault) (p : a ≡ unless SideOutOfRange (sides_fit s)) where
    pub cast_1 : (d : Fault) → a ≡ Err d → OldRuledOf s u ls vs room (Err d)
    unfolding old_writer_checks OldRoomIf
    cast_1 d q = record { is = test_ends _ SideOutOfRange d side_is _ lent (sides_fit s) refl (sym p ∙ q); roomy = tt }

    module _ (d : a ≡ Ok tt) where
      sides_right : sides_fit s ≡ true
      sides_right = ruled_well SideOutOfRange (sides_fit s) (sym p ∙ d)

      module _ (b : Bool) (q : b ≡ unit_fits u) where
        pub cast_3 : b ≡ false → OldRuledOf s u ls vs room (Err SettingOutOfRange)
        unfolding old_writer_checks OldRoomIf
        cast_3 e = record {
          is = passes_on _ _ lent (fault_no (sides_fit s) sides_right)
              ∙ test_ends _ SettingOutOfRange SettingOutOfRange setting_is _ lent (unit_fits u) refl (ap (unless SettingOutOfRange) (sym q ∙ e));
          roomy = tt;
        }

        pub cast_slices : (r : Result (Unit {0}) Fault) → b ≡ true → r ≡ old_slice_ruling lent → OldRuledOf s u ls vs room r
        cast_slices r e f = record { is = slices_ruled r f sides_right (sym q ∙ e); roomy = room_if (unit_from u (sym q ∙ e)) r f }

pub ready_fit : (s : Sides) (a : Result (Unit {0}) Fault) → a ≡ unless SideOutOfRange (sides_fit s) → a ≡ Ok tt → Fit s
ready_fit s a p d = fit s (ruled_well SideOutOfRange (sides_fit s) (sym p ∙ d))

pub ready_unit : (u : ℕ) (b : Bool) → b ≡ unit_fits u → b ≡ true → 0 < u
ready_unit u b q e = unit_from u (sym q ∙ e)

pub ruleset lengths = (rules, not-true, not-false, lengths_labels, lengths_values, lengths_room)

pub ruleset slices = (rules, not-true, not-false, slices_labels, slices_values)

pub ruleset casts = (rules, not-true, not-false, cast_1, cast_3, cast_slices, ready_fit, ready_unit)

-- ---- what the writer makes of it
writing_refused : (w : OldWriting) (num place : ℕ) → verdict old_writer_checks w ≡ refused num place → old_writing w ≡ record { answer = refusal num place; count = 0; output = w.output }
unfolding old_writing
writing_refused w num place e = rw (old_writing, e)

writing_passed : (w : OldWriting) → verdict old_writer_checks w ≡ passed
    → old_writing w ≡ record { answer = done; count = length (old_bytes_of w); output = filled (length (old_bytes_of w)) (old_bytes_of w) w.output }
unfolding old_writing
writing_passed w e = rw (old_writing, e)

module _ (s : Sides) (u : ℕ) (ls : List ℕ) (vs : List ℤ) (old : List ℕ) where
  abbrev bytes : List ℕ
  bytes = old_written (record { sides = s; labels = ls; values = vs }) u

  same_verdict : verdict old_writer_checks (old_offered s u ls vs old) ≡ verdict old_writer_checks (old_offered s u ls vs (replicate (length old) 0))
  unfolding old_writer_checks old_lengths_fit
  same_verdict = verdict_agree old_writer_checks (old_offered s u ls vs old) (old_offered s u ls vs (replicate (length old) 0)) (
    refl,
    (
      refl,
      (
        ap (λ k. fault (not (eqb (length ls) (cells s) && (eqb (length vs) (cells s) && leb (length bytes) k)))) (sym (length-replicate {A = ℕ} (length old) 0)),
        (refl, (refl, (refl, tt))),
      ),
    ),
  )

  module _ (r : Result (Unit {0}) Fault) (z : OldRuledOf s u ls vs (length old) r) where
    pub write_refused : (d : Fault) (a : Answer) → r ≡ Err d → a ≡ refusal (number_of d) (place_of d) → OldWriteOf s u ls vs old (record { answer = a; count = 0 }) old
    write_refused d a e f =
        let q = writing_refused (old_offered s u ls vs old) (number_of d) (place_of d) (same_verdict ∙ z.is ∙ ap ruling_of e) in
        record { answer = f ∙ sym (ap (λ w. w.answer) q); count = sym (ap (λ w. w.count) q); output = sym (ap (λ w. w.output) q) }

    roomy : r ≡ Ok tt → (0 < u) × (length bytes ≤ length old)
    unfolding OldRoomIf
    roomy e = rw e at z.roomy

    pub write_unit : r ≡ Ok tt → 0 < u
    write_unit e = (roomy e).0

    pub write_room : r ≡ Ok tt → length (old_written (record { sides = s; labels = ls; values = vs }) u) ≤ length old
    write_room e = (roomy e).1

    pub write_allowed : (a : Answer) (new : List ℕ) (n : ℕ) → r ≡ Ok tt → a ≡ refusal 0 0 → Put (old_written (record { sides = s; labels = ls; values = vs }) u) old 0 new n
        → OldWriteOf s u ls vs old (record { answer = a; count = n }) new
    unfolding done filled
    write_allowed a new n e f p =
        let q = writing_passed (old_offered s u ls vs old) (same_verdict ∙ z.is ∙ ap ruling_of e) in
        let k : 0 + length bytes ≡ length bytes = omega arith in
        let m : 0 + length bytes ≤ length old = omega (arith, write_room e) in
        record {
          answer = f ∙ sym (ap (λ w. w.answer) q);
          count = p.next ∙ k ∙ sym (ap (λ w. w.count) q);
          output = p.is ∙ sets-eq bytes old 0 m ∙ ap (λ i. bytes ++ drop i old) k ∙ sym (ap (λ w. w.output) q);
        }

pub ruleset writers = (rules, write_refused, write_unit, write_room, write_allowed)
