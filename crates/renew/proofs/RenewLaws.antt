-- Laws of an old session in the new form: the reader's refusal; what it accepts the writer does not refuse, and has
-- room for. Assumes nothing.
use mathlib.Core.Path.{◌≡◌, refl, sym, ap, ◌∙◌, subst}
use mathlib.Core.Bool.{Bool, true, false, ◌&&◌, false≢true}
use mathlib.Core.List.{List}
use Prim.Native.Nat.{ℕ, ◌+◌, ◌^◌, ◌≤◌, ◌<◌}
use native.Mathlib.Omega.{arith}
use borrow.Author.Rules.{rules}
use borrow.Author.Tests.{eq-eqb, le-leb}
use lib.Dec.{T}
use lib.IntN.{ℤ}
use lib.ListN.{length, take, drop, length-append}
use lib.Seq.{length-take-le}
use Rattle.method.specs.declared.Sides.{Sides}
use Rattle.method.specs.declared.Order.{Order}
use Rattle.method.specs.declared.Order.TheVariants.{Big, Little}
use Rattle.method.specs.declared.Settings.{Settings}
use Rattle.method.specs.Cast.{Cast, between, cells, sides_fit, settings_fit}
use Rattle.method.specs.Numbers.{decimal}
use Rattle.method.specs.Form.{header_written, written}
use Rattle.method.specs.Answers.{passed, verdict, refusal, done}
use Rattle.method.specs.Rooms.{filled}
use Rattle.method.specs.Writing.{Writing, bytes_of, writer_lengths_fit, writer_checks, writing}
use Rattle.method.specs.OldForm.{OldReading, old_header, old_labels_in, old_values_in, old_cast_in, unit_fits, old_line_check, old_side_check, old_body_check, old_room_check, old_content_checks, old_reader_checks, old_not_read, old_is_read, old_reading}
use Rattle.method.specs.OldProgram.{old_taken, renewal}
use Rattle.theory.specs.Sides.{Fit}
use Rattle.theory.proofs.Sides.{fit, to}
use Rattle.theory.proofs.Verdicts.{Judged, fine, faulty, judge, pass_all, no_fault, fault_no}
use Rattle.text_out.proofs.DecimalLaws.{most_digits}
use Rattle.session_bytes.specs.Lengths.{OrderLength}
use Rattle.session_bytes.proofs.LengthLaws.{order_big, order_little, header_long, written_length}
use Rattle.old_read.specs.OldReads.{old_lent, old_asked, OldReadOf}
use Rattle.old_read.specs.declared.OldSession.{OldSession}
use Rattle.old_read.proofs.ReadLaws.{same_verdict, reading_passed}
use Rattle.session_write.specs.declared.Written.{Written as Back}
use Rattle.session_write.specs.Writes.{offered, WriteOf}
use Rattle.prints.specs.Prints.{buffer_for, large_room}
use Rattle.prints.proofs.Fronts.{buffer_for_lem}
use Rattle.prints.proofs.OldFronts.{renewal_refused, old_front_renews}
use Rattle.answer_session.proofs.RespondLaws.{cast_eq}
use Rattle.answer_old_session.specs.OldResponds.{OldIsRead}
use Rattle.answer_old_session.proofs.OldRespondLaws.{reading_refused, values_long, read_passed, checked, in_range, cells_few, labels_long}
use Rattle.renew.specs.Renews.{RenewOf, RenewProgramOf}

renewal_passed : (room : ℕ) (o : Order) (t : Settings) (bs : List ℕ) → verdict old_reader_checks (old_taken room t bs) ≡ passed
    → renewal room o t bs ≡ record { answer = done; bytes = written (old_cast_in (old_header bs)) o t }
unfolding renewal
renewal_passed room o t bs e = rw (renewal, e)

writing_passed : (w : Writing) → verdict writer_checks w ≡ passed
    → writing w ≡ record { answer = done; count = length (bytes_of w); output = filled (length (bytes_of w)) (bytes_of w) w.output }
unfolding writing
writing_passed w e = rw (writing, e)

-- ---- refused by the reader
module _ (t : Settings) (bs : List ℕ) (old new : List ℤ) (s : OldSession) (z : OldReadOf t bs old s new) where
  abbrev lent : OldReading
  lent = old_lent t bs old

  pub renew_refused : (o : Order) (out : List ℕ) → (s.answer.number ≡ 0 → ⊥) → RenewOf (length old) o t bs out (record { answer = s.answer; count = 0 }) out
  unfolding old_is_read old_not_read done refusal old_reader_checks old_line_check old_side_check old_body_check old_room_check old_content_checks filled
  renew_refused o out x = go (judge old_reader_checks lent)
    where
      go : Judged old_reader_checks lent → RenewOf (length old) o t bs out (record { answer = s.answer; count = 0 }) out
      go (fine v a) = absurd (x (ap (λ r. r.number) z.answer ∙ ap (λ r. r.answer.number) (reading_passed lent v)))
      go (faulty num place v f) =
          let a : s.answer ≡ refusal num place = z.answer ∙ ap (λ r. r.answer) (reading_refused lent num place v) in
          let q = renewal_refused (length old) t o bs num place (sym (same_verdict t bs old) ∙ v) in
          record {
            answer = a ∙ sym (ap (λ r. r.answer) q);
            count = sym (ap (λ r. length r.bytes) q);
            output = sym (ap (λ r. filled (length r.bytes) r.bytes out) q);
          }

-- the reader keeps the number of values, and so the room that there is
pub kept_room : {a b m : ℕ} → a ≡ b → buffer_for b ≤ m → buffer_for a ≤ m
kept_room e h = rw e h

pub kept_renewed : (o : Order) (t : Settings) (bs : List ℕ) {a b : ℕ} {old new : List ℕ} {r : Back} → a ≡ b → RenewOf a o t bs old r new → RenewOf b o t bs old r new
kept_renewed o t bs e p = rw e at p

pub ruleset renewing = (rules, renew_refused, read_passed, kept_room)

-- ---- how long a session in the new form is
and_true : (a b : Bool) → (a && b) ≡ true → (a ≡ true) × (b ≡ true)
and_true true b e = (refl, e)
and_true false b e = absurd (false≢true e)

at_most : (lo hi x : ℕ) → between lo hi x ≡ true → x ≤ hi
at_most lo hi x e = to lo hi x (subst T (sym e) tt)

seven_digits : (n : ℕ) → n < 10 ^ 7 → length (decimal n) ≤ 7
seven_digits n h = most_digits 6 n h

header_most : (s : Sides) (o : Order) (t : Settings) → sides_fit s ≡ true → settings_fit t ≡ true → length (header_written s o t) ≤ 94
unfolding settings_fit
header_most s o t e f = go o refl
  where
    z : Fit s
    z = fit s e

    p : (between 0 1000000 t.tolerance ≡ true) × ((between 1 6 t.levels && between 0 1000 t.rounds) ≡ true)
    p = and_true (between 0 1000000 t.tolerance) (between 1 6 t.levels && between 0 1000 t.rounds) f

    q : (between 1 6 t.levels ≡ true) × (between 0 1000 t.rounds ≡ true)
    q = and_true (between 1 6 t.levels) (between 0 1000 t.rounds) p.1

    sides : length (decimal s.nx) + length (decimal s.ny) + length (decimal s.nz) ≤ 21
    sides = omega (arith, seven_digits s.nx (omega (arith, z.nx_32)), seven_digits s.ny (omega (arith, z.ny_32)), seven_digits s.nz (omega (arith, z.nz_32)))

    settings : length (decimal t.tolerance) + length (decimal t.levels) + length (decimal t.rounds) ≤ 21
    settings = omega (arith, seven_digits t.tolerance (omega (arith, at_most 0 1000000 t.tolerance p.0)), seven_digits t.levels (omega (arith, at_most 1 6 t.levels q.0)), seven_digits t.rounds (omega (arith, at_most 0 1000 t.rounds q.1)))

    long : (b : ℕ) → b ≤ 13 → OrderLength o b → length (header_written s o t) ≤ 94
    long b h l = omega (arith, (header_long s o t _ b _ (record { is = refl; few = omega (arith, sides) }) l (record { is = refl; few = omega (arith, settings) })).is, sides, settings)

    go : (x : Order) → o ≡ x → length (header_written s o t) ≤ 94
    go Big d = long 10 (omega arith) (order_big o d)
    go Little d = long 13 (omega arith) (order_little o d)

-- ---- what the reader accepted the writer does not refuse
module _ (room : ℕ) (o : Order) (t : Settings) (bs : List ℕ) (v : verdict old_reader_checks (old_taken room t bs) ≡ passed) (out : List ℕ) (h : buffer_for room ≤ length out) where
  abbrev anew : Writing
  anew = record { cast = old_cast_in (old_header bs); order = o; settings = t; output = out }

  settings_fit_lem : settings_fit t ≡ true
  unfolding old_reader_checks old_content_checks
  settings_fit_lem =
      (and_true (unit_fits (old_header bs).unit) (settings_fit t)
      (no_fault (unit_fits (old_header bs).unit && settings_fit t) (checked room t bs v).1.1.1.1.0)).1

  lengths_fit_lem : writer_lengths_fit anew ≡ true
  unfolding writer_lengths_fit old_cast_in
  lengths_fit_lem =
      let n = cells (old_header bs).sides in
      let a : length (old_labels_in (old_header bs)) ≡ n = labels_long room t bs v in
      let b : length (old_values_in (old_header bs)) ≡ n = values_long bs in
      let m : length (written (old_cast_in (old_header bs)) o t) ≤ length out =
      omega (arith, written_length (old_header bs).sides o t (old_labels_in (old_header bs)) (old_values_in (old_header bs)), header_most (old_header bs).sides o t (in_range room t bs v) settings_fit_lem, a, b, cells_few room t bs v, buffer_for_lem room) in
      rw (eq-eqb (length (old_labels_in (old_header bs))) n a, eq-eqb (length (old_values_in (old_header bs))) n b, le-leb (length (written (old_cast_in (old_header bs)) o t)) (length out) m)

  pub writer_passes : verdict writer_checks anew ≡ passed
  unfolding writer_checks old_reader_checks old_side_check old_content_checks old_cast_in
  writer_passes =
      let k = checked room t bs v in
      pass_all writer_checks anew (k.1.0, (fault_no (settings_fit t) settings_fit_lem, (fault_no (writer_lengths_fit anew) lengths_fit_lem, (k.1.1.1.1.1.0, (k.1.1.1.1.1.1.0, tt)))))

-- ---- and what it writes is the session in the new form
module _ (t : Settings) (bs : List ℕ) (s : Sides) (vs : List ℤ) (z : OldIsRead t bs s vs) where
  pub renew_fit : Fit s
  renew_fit = rw z.sides (fit (old_header bs).sides (in_range (length vs) t bs z.passes))

  module _ (n : ℕ) (c : n ≡ cells s) where
    pub renew_values : n ≤ length vs
    renew_values = omega (arith, c ∙ ap cells z.sides, cells_few (length vs) t bs z.passes)

    pub renew_part : n ≡ length (take n vs)
    renew_part = sym (length-take-le n vs renew_values)

    module _ (labels : List ℕ) (f : labels ≡ (old_reading (old_asked t bs (length vs))).labels) (o : Order) (out : List ℕ) (h : buffer_for (length vs) ≤ length out) where
      labels_is : (old_reading (old_asked t bs (length vs))).labels ≡ old_labels_in (old_header bs)
      unfolding old_is_read
      labels_is = ap (λ r. r.labels) (reading_passed (old_asked t bs (length vs)) z.passes)

      same_cast : ◌≡◌ {A = Cast} (record { sides = s; labels = labels; values = take n vs }) (old_cast_in (old_header bs))
      unfolding old_cast_in
      same_cast = cast_eq s (old_header bs).sides labels (old_labels_in (old_header bs)) (take n vs) (old_values_in (old_header bs)) z.sides (f ∙ labels_is) (ap (λ k. take k vs) c ∙ z.values)

      new_session : writing (offered s o t labels (take n vs) out)
          ≡ record { answer = done; count = length (written (old_cast_in (old_header bs)) o t); output = filled (length (written (old_cast_in (old_header bs)) o t)) (written (old_cast_in (old_header bs)) o t) out }
      new_session =
          ap (λ k. writing (record { cast = k; order = o; settings = t; output = out })) same_cast
          ∙ writing_passed (anew (length vs) o t bs z.passes out h) (writer_passes (length vs) o t bs z.passes out h)

      pub renew_written : (r : Back) (new : List ℕ) → WriteOf s o t labels (take n vs) out r new → RenewOf (length vs) o t bs out r new
      renew_written r new w =
          let q = renewal_passed (length vs) o t bs z.passes in
          record {
            answer = w.answer ∙ ap (λ x. x.answer) new_session ∙ sym (ap (λ x. x.answer) q);
            count = w.count ∙ ap (λ x. x.count) new_session ∙ sym (ap (λ x. length x.bytes) q);
            output = w.output ∙ ap (λ x. x.output) new_session ∙ sym (ap (λ x. filled (length x.bytes) x.bytes out) q);
          }

pub ruleset newly = (rules, renew_fit, renew_values, renew_part, renew_written)

-- ---- the program's promise: the front of an old session decides
-- what is put at the front of a list that is long enough is within it
put_within : (x old : List ℕ) → length x ≤ length (filled (length x) x old)
unfolding filled
put_within x old = omega (arith, length-append x (drop (length x) old))

pub renew_front : (room : ℕ) (o : Order) (t : Settings) (front old : List ℕ) (r : Back) (new : List ℕ) → RenewOf room o t front old r new → room ≡ large_room → RenewProgramOf o t front old r new
renew_front room o t front old r new p e =
    let q : RenewOf large_room o t front old r new = rw e at p in
    record {
      renews = λ bs f. rw_front bs (old_front_renews large_room t bs o front f);
      within = omega (arith, p.count, ap length p.output, put_within (renewal room o t front).bytes old);
    }
  where
    rw_front : (bs : List ℕ) → renewal large_room o t front ≡ renewal large_room o t bs → RenewOf large_room o t bs old r new
    rw_front bs k =
        let q : RenewOf large_room o t front old r new = rw e at p in
        record {
          answer = q.answer ∙ ap (λ x. x.answer) k;
          count = q.count ∙ ap (λ x. length x.bytes) k;
          output = q.output ∙ ap (λ x. filled (length x.bytes) x.bytes old) k;
        }
