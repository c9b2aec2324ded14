-- Laws of the writer: lengths, the checks in their order, and what it makes of a judgement. Assumes nothing.
use mathlib.Core.Path.{◌≡◌, refl, sym, ap, ap₂, ◌∙◌}
use mathlib.Core.Bool.{Bool, true, false, not, ◌&&◌, false≢true}
use mathlib.Core.List.{List, [], ◌++◌}
use Prim.Native.Nat.{ℕ, ◌+◌, ◌*◌, ◌≤◌}
use native.Mathlib.Omega.{arith}
use borrow.Author.Rules.{rules}
use borrow.Author.Tests.{eq-eqb, ne_eqb, eqb-true, leb-true, not-true, not-false}
use lib.Dec.{leb, eqb}
use lib.IntN.{ℤ}
use lib.ListN.{length, drop, replicate, length-replicate}
use lib.Seq.{sets-eq}
use Rattle.method.specs.declared.Answer.{Answer}
use Rattle.method.specs.declared.Sides.{Sides}
use Rattle.method.specs.declared.Order.{Order}
use Rattle.method.specs.declared.Settings.{Settings}
use Rattle.method.specs.Cast.{cells, sides_fit, settings_fit}
use Rattle.method.specs.Form.{header_written, written}
use Rattle.method.specs.Answers.{fault, passed, refused, verdict, refusal, done}
use Rattle.method.specs.Rooms.{filled}
use Rattle.method.specs.Writing.{Writing, bytes_of, writer_lengths_fit, writer_checks, writing}
use Rattle.checks.specs.Faults.{cell_ruling}
use Rattle.text_out.specs.Puts.{Put}
use Rattle.session_bytes.specs.Lengths.{HeaderLength}
use Rattle.session_write.specs.Writes.{offered, WriteOf, RoomIf, limit_ruling, slice_ruling, RuledOf}
use Rattle.std.specs.Prelude.{Result, Ok, Err}
use Rattle.answers.specs.Faults.{number_of, place_of}
use Rattle.answers.specs.declared.Fault.{Fault}
use Rattle.answers.specs.declared.Fault.TheVariants.{SideOutOfRange, WrongLength, SettingOutOfRange}
use Rattle.theory.specs.Sides.{Fit}
use Rattle.theory.proofs.Sides.{fit}
use Rattle.theory.proofs.Verdicts.{verdict_agree}
use Rattle.checks.proofs.RuleLaws.{side_is, length_is, setting_is, ruling_none, test_more, last_ruling, first_assoc, both_allowed, ruled_well}
use Rattle.checks.proofs.CheckLaws.{cells_ruled}
use Rattle.checks.specs.Rulings.{ruling_of, unless, first_of}
use Rattle.session_bytes.proofs.LengthLaws.{written_length}

-- ---- an output that is just long enough
pub room_is : (s : Sides) (o : Order) (t : Settings) (m n room : ℕ) → HeaderLength s o t m → leb (m + 5 * n) room ≡ leb (length (header_written s o t) + 5 * n) room
room_is s o t m n room l = ap (λ k. leb (k + 5 * n) room) l.is

pub ruleset limits = (rules, room_is)

and_true : (a b : Bool) → (a && b) ≡ true → (a ≡ true) × (b ≡ true)
and_true true b e = (refl, e)
and_true false b e = absurd (false≢true e)

module _ (s : Sides) (o : Order) (t : Settings) (ls : List ℕ) (vs : List ℤ) (room : ℕ) where
  abbrev whole : List ℕ
  whole = written (record { sides = s; labels = ls; values = vs }) o t

  abbrev lent : Writing
  lent = offered s o t ls vs (replicate room 0)

  -- ---- check 2
  module _ (n : ℕ) (c : n ≡ cells s) where
    pub lengths_labels : (length ls ≡ n → ⊥) → false ≡ writer_lengths_fit lent
    unfolding writer_lengths_fit
    lengths_labels h = rw (ne_eqb (length ls) (cells s) (λ e. h (e ∙ sym c)))

    module _ (h : length ls ≡ n) where
      pub lengths_values : (length vs ≡ n → ⊥) → false ≡ writer_lengths_fit lent
      unfolding writer_lengths_fit
      lengths_values k = rw (eq-eqb (length ls) (cells s) (h ∙ c), ne_eqb (length vs) (cells s) (λ e. k (e ∙ sym c)))

      pub lengths_room : (d : Bool) → length vs ≡ n → d ≡ leb (length (header_written s o t) + 5 * n) room → d ≡ writer_lengths_fit lent
      unfolding writer_lengths_fit
      lengths_room d k l =
          let need : length (header_written s o t) + 5 * n ≡ length whole = sym (written_length s o t ls vs ∙ omega arith) in
          l ∙ ap (λ m. leb m room) need ∙ rw (eq-eqb (length ls) (cells s) (h ∙ c), eq-eqb (length vs) (cells s) (k ∙ c), length-replicate {A = ℕ} room 0)

  lengths_known : writer_lengths_fit lent ≡ true → (length ls ≡ cells s) × ((length vs ≡ cells s) × (length whole ≤ room))
  unfolding writer_lengths_fit
  lengths_known e =
      let a = and_true (eqb (length ls) (cells s)) _ e in
      let b = and_true (eqb (length vs) (cells s)) _ a.1 in
      (eqb-true _ _ a.0, (eqb-true _ _ b.0, rw (length-replicate {A = ℕ} room 0) at (leb-true (length whole) _ b.1)))

  -- ---- 2, and then 4 and 5
  module _ (b : Bool) (p : b ≡ writer_lengths_fit lent) where
    module _ (e : b ≡ true) (n : ℕ) (c : n ≡ cells s) where
      pub slices_labels : n ≤ length ls
      slices_labels = omega (arith, c, (lengths_known (sym p ∙ e)).0)

      pub slices_values : n ≤ length vs
      slices_values = omega (arith, c, (lengths_known (sym p ∙ e)).1.0)

      pub slices_cells : (r : Result (Unit {0}) Fault) → r ≡ cell_ruling ls vs n → r ≡ slice_ruling lent
      slices_cells r q = q ∙ ap (cell_ruling ls vs) c ∙ sym (ap (λ y. first_of (unless WrongLength y) (cell_ruling ls vs (cells s))) (sym p ∙ e))

  room_if : (q : Result (Unit {0}) Fault) → q ≡ slice_ruling lent → RoomIf (length whole) room q
  unfolding RoomIf
  room_if (Err d) e = tt
  room_if (Ok u) e = (lengths_known (ruled_well WrongLength _ (both_allowed (unless WrongLength (writer_lengths_fit lent)) _ (sym e)).0)).1.1

  -- ---- 1 and 3, and then the others
  module _ (a : Result (Unit {0}) Fault) (p : a ≡ limit_ruling s t) where
    by_limits : (q : Result (Unit {0}) Fault) → q ≡ slice_ruling lent → verdict writer_checks lent ≡ ruling_of (first_of a q)
    unfolding writer_checks
    by_limits q e =
        test_more _ SideOutOfRange side_is _ lent (sides_fit s) _ refl
        (test_more _ SettingOutOfRange setting_is _ lent (settings_fit t) _ refl
        (test_more _ WrongLength length_is _ lent (writer_lengths_fit lent) (cell_ruling ls vs (cells s)) refl
        (cells_ruled (λ w. w.cast) [] lent (cells s) refl (Ok tt) (ruling_none lent) ∙ ap ruling_of (last_ruling (cell_ruling ls vs (cells s))))))
        ∙ ap ruling_of (sym (first_assoc (unless SideOutOfRange (sides_fit s)) (unless SettingOutOfRange (settings_fit t)) _) ∙ ap₂ first_of (sym p) (sym e))

    pub cast_refused : (d : Fault) → a ≡ Err d → RuledOf s o t ls vs room (Err d)
    unfolding RoomIf
    cast_refused d q = record { is = by_limits (slice_ruling lent) refl ∙ ap (λ x. ruling_of (first_of x (slice_ruling lent))) q; roomy = tt }

    pub limits_fit : a ≡ Ok tt → Fit s
    limits_fit d = fit s (ruled_well SideOutOfRange (sides_fit s) (both_allowed (unless SideOutOfRange (sides_fit s)) _ (sym p ∙ d)).0)

    pub cast_slices : (q : Result (Unit {0}) Fault) → a ≡ Ok tt → q ≡ slice_ruling lent → RuledOf s o t ls vs room q
    cast_slices q d e = record { is = by_limits q e ∙ ap (λ x. ruling_of (first_of x q)) d; roomy = room_if q e }

pub ruleset lengths = (rules, not-true, not-false, lengths_labels, lengths_values, lengths_room)

pub ruleset slices = (rules, not-true, not-false, slices_labels, slices_values)

pub ruleset casts = (rules, cast_refused, limits_fit, cast_slices)

-- ---- what the writer makes of it
writing_refused : (w : Writing) (num place : ℕ) → verdict writer_checks w ≡ refused num place → writing w ≡ record { answer = refusal num place; count = 0; output = w.output }
unfolding writing
writing_refused w num place e = rw (writing, e)

writing_passed : (w : Writing) → verdict writer_checks w ≡ passed
    → writing w ≡ record { answer = done; count = length (bytes_of w); output = filled (length (bytes_of w)) (bytes_of w) w.output }
unfolding writing
writing_passed w e = rw (writing, e)

module _ (s : Sides) (o : Order) (t : Settings) (ls : List ℕ) (vs : List ℤ) (old : List ℕ) where
  same_verdict : verdict writer_checks (offered s o t ls vs old) ≡ verdict writer_checks (offered s o t ls vs (replicate (length old) 0))
  unfolding writer_checks writer_lengths_fit
  same_verdict = verdict_agree writer_checks (offered s o t ls vs old) (offered s o t ls vs (replicate (length old) 0)) (
    refl,
    (
      refl,
      (
        ap (λ k. fault (not (eqb (length ls) (cells s) && (eqb (length vs) (cells s) && leb (length (written (record { sides = s; labels = ls; values = vs }) o t)) k))))
            (sym (length-replicate {A = ℕ} (length old) 0)),
        (refl, (refl, tt)),
      ),
    ),
  )

  module _ (r : Result (Unit {0}) Fault) (z : RuledOf s o t ls vs (length old) r) where
    pub write_refused : (d : Fault) (a : Answer) → r ≡ Err d → a ≡ refusal (number_of d) (place_of d) → WriteOf s o t ls vs old (record { answer = a; count = 0 }) old
    write_refused d a e f =
        let q = writing_refused (offered s o t ls vs old) (number_of d) (place_of d) (same_verdict ∙ z.is ∙ ap ruling_of e) in
        record { answer = f ∙ sym (ap (λ w. w.answer) q); count = sym (ap (λ w. w.count) q); output = sym (ap (λ w. w.output) q) }

    pub write_room : r ≡ Ok tt → length (written (record { sides = s; labels = ls; values = vs }) o t) ≤ length old
    unfolding RoomIf
    write_room e = rw e at z.roomy

    pub write_allowed : (a : Answer) (new : List ℕ) (n : ℕ) → r ≡ Ok tt → a ≡ refusal 0 0 → Put (written (record { sides = s; labels = ls; values = vs }) o t) old 0 new n
        → WriteOf s o t ls vs old (record { answer = a; count = n }) new
    unfolding done filled
    write_allowed a new n e f p =
        let q = writing_passed (offered s o t ls vs old) (same_verdict ∙ z.is ∙ ap ruling_of e) in
        let k : 0 + length (written (record { sides = s; labels = ls; values = vs }) o t) ≡ length (written (record { sides = s; labels = ls; values = vs }) o t) = omega arith in
        let m : 0 + length (written (record { sides = s; labels = ls; values = vs }) o t) ≤ length old = omega (arith, write_room e) in
        record {
          answer = f ∙ sym (ap (λ w. w.answer) q);
          count = p.next ∙ k ∙ sym (ap (λ w. w.count) q);
          output = p.is ∙ sets-eq (written (record { sides = s; labels = ls; values = vs }) o t) old 0 m
              ∙ ap (λ i. written (record { sides = s; labels = ls; values = vs }) o t ++ drop i old) k ∙ sym (ap (λ w. w.output) q);
        }

pub ruleset writers = (rules, write_refused, write_room, write_allowed)
