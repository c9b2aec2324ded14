-- Laws of what the reader makes of a judgement. Assumes nothing.
use mathlib.Core.Path.{◌≡◌, refl, sym, ap, ap₂, ◌∙◌}
use mathlib.Core.List.{List}
use Prim.Native.Nat.{ℕ, ◌+◌, ◌-◌, ◌*◌, ◌^◌, ◌≤◌, ◌<◌}
use native.Mathlib.Omega.{arith}
use borrow.Author.Rules.{rules}
use lib.Dec.{ltb}
use lib.IntN.{ℤ, pos}
use lib.ListN.{length, take, drop, length-drop, length-replicate}
use lib.Seq.{drop-drop}
use mir.Syntax.{w64}
use mir.Val.{Fits}
use Rattle.laws.specs.Lists.{tab}
use Rattle.method.specs.declared.Answer.{Answer}
use Rattle.method.specs.declared.Settings.{Settings}
use Rattle.method.specs.Cast.{cells}
use Rattle.method.specs.Answers.{fault, passed, refused, verdict, refusal, done}
use Rattle.method.specs.Rooms.{filled}
use Rattle.method.specs.OldForm.{OldReading, old_header, old_header_of, old_labels_in, old_values_in, old_line_check, old_side_check, old_body_check, old_room_check, old_content_checks, old_reader_checks, body_start, old_not_read, old_is_read, old_reading}
use Rattle.theory.specs.Sides.{Fit}
use Rattle.theory.proofs.Sides.{fit}
use Rattle.theory.proofs.Verdicts.{verdict_agree}
use Rattle.std.specs.Prelude.{Result, Ok, Err}
use Rattle.answers.specs.Faults.{number_of, place_of}
use Rattle.answers.specs.declared.Fault.{Fault}
use Rattle.old_header.specs.declared.OldHeader.{OldHeader}
use Rattle.old_read.specs.OldBody.{old_value_in}
use Rattle.old_read.specs.OldReads.{old_lent, OldReadOf, old_asked, old_verdict_of, OldReadyIf, OldJudgedOf, Takes, TakesIf, old_taken_of}
use Rattle.old_read.specs.declared.Taken.{Taken}

pub same_verdict : (t : Settings) (bytes : List ℕ) (old : List ℤ) → verdict old_reader_checks (old_lent t bytes old) ≡ verdict old_reader_checks (old_asked t bytes (length old))
unfolding old_reader_checks old_line_check old_side_check old_body_check old_room_check old_content_checks
same_verdict t bytes old = verdict_agree old_reader_checks (old_lent t bytes old) (old_asked t bytes (length old))
    (refl, (refl, (refl, (ap (λ k. fault (ltb k (cells (old_header bytes).sides))) (sym (length-replicate (length old) (pos 0))), (refl, (refl, (refl, tt)))))))

reading_refused : (q : OldReading) (num place : ℕ) → verdict old_reader_checks q ≡ refused num place → old_reading q ≡ old_not_read q (refusal num place)
unfolding old_reading
reading_refused q num place e = rw (old_reading, e)

pub reading_passed : (q : OldReading) → verdict old_reader_checks q ≡ passed → old_reading q ≡ old_is_read q
unfolding old_reading
reading_passed q e = rw (old_reading, e)

-- ---- what is taken of it
pub taken_refused : (j : Result OldHeader Fault) (d : Fault) (a : Answer) → j ≡ Err d → a ≡ refusal (number_of d) (place_of d)
    → record { session = record { answer = a; sides = record { nx = 0; ny = 0; nz = 0 }; unit = 0; start = 0 }; body = 0; count = 0 } ≡ old_taken_of j
unfolding old_taken_of
taken_refused j d a e f = rw (e, f)

pub taken_passed : (j : Result OldHeader Fault) (h : OldHeader) (a : Answer) (n : ℕ) → j ≡ Ok h → a ≡ refusal 0 0 → n ≡ cells h.sides
    → record { session = record { answer = a; sides = h.sides; unit = h.unit; start = h.start + 2 * n }; body = h.start; count = n } ≡ old_taken_of j
unfolding old_taken_of done
taken_passed j h a n e f c = rw (e, f, c)

passed_takes : (j : Result OldHeader Fault) (h : OldHeader) → TakesIf j → j ≡ Ok h → Takes h
unfolding TakesIf
passed_takes j h z e = rw e at z

pub passed_fit : (j : Result OldHeader Fault) (h : OldHeader) → TakesIf j → j ≡ Ok h → Fit h.sides
passed_fit j h z e = (passed_takes j h z e).fit

pub passed_near : (j : Result OldHeader Fault) (h : OldHeader) (n : ℕ) → TakesIf j → j ≡ Ok h → n ≡ cells h.sides → Fits w64 (h.start + 2 * n)
passed_near j h n z e c = record { fits = omega (arith, (passed_takes j h z e).near) }

pub ruleset taking = (rules, taken_refused, taken_passed, passed_fit, passed_near)

pub takes_if : (t : Settings) (bytes : List ℕ) (room : ℕ) (j : Result OldHeader Fault) → OldJudgedOf t bytes room j → length bytes < 2 ^ 64 → TakesIf j
unfolding TakesIf OldReadyIf
takes_if t bytes room (Err d) z l = tt
takes_if t bytes room (Ok h) z l = record {
  fit = fit h.sides z.ready.sized.fit;
  near = omega (arith, z.ready.sized.long, length-drop h.start bytes, z.ready.sized.within);
}

-- the cells that are read lie in the bytes, and there is room for them
record Within (bytes : List ℕ) (room : ℕ) (k : Taken) : Type 0 where
  lies : k.body + 3 * k.count ≤ length bytes
  part : k.session.start + k.count ≤ length bytes
  roomy : k.count ≤ room
  unit : k.session.unit ≤ 1000

within : (t : Settings) (bytes : List ℕ) (room : ℕ) (j : Result OldHeader Fault) → OldJudgedOf t bytes room j → Within bytes room (old_taken_of j)
unfolding old_taken_of OldReadyIf
within t bytes room (Err d) z = record { lies = omega arith; part = omega arith; roomy = omega arith; unit = omega arith }
within t bytes room (Ok h) z =
    let a = z.ready.sized.long in
    let b = length-drop h.start bytes in
    let c = z.ready.sized.within in
    record { lies = omega arith; part = omega arith; roomy = z.ready.roomy; unit = z.ready.sized.unit }

labels_of_lem : (t : Settings) (bytes : List ℕ) (room : ℕ) (j : Result OldHeader Fault) → OldJudgedOf t bytes room j
    → take ((old_taken_of j).session.start + (old_taken_of j).count - (old_taken_of j).session.start) (drop (old_taken_of j).session.start bytes) ≡ (old_reading (old_asked t bytes room)).labels
unfolding old_taken_of old_verdict_of OldReadyIf old_not_read old_header_of old_is_read old_labels_in
labels_of_lem t bytes room (Err d) z = sym (ap (λ r. r.labels) (reading_refused (old_asked t bytes room) (number_of d) (place_of d) z.is))
labels_of_lem t bytes room (Ok h) z =
    let n = cells h.sides in
    let m : h.start + 2 * n + n - (h.start + 2 * n) ≡ n = omega arith in
    ap₂ take m (sym (drop-drop (2 * n) h.start bytes)) ∙ sym (ap old_labels_in z.ready.sized.is) ∙ sym (ap (λ r. r.labels) (reading_passed (old_asked t bytes room) z.is))

module _ (t : Settings) (bytes : List ℕ) (room : ℕ) (j : Result OldHeader Fault) (k : Taken) (z : OldJudgedOf t bytes room j) (e : k ≡ old_taken_of j) where
  known : Within bytes room k
  known = rw e (within t bytes room j z)

  pub taken_body : k.body ≤ length bytes
  taken_body = omega (arith, known.lies)

  pub taken_roomy : k.count ≤ room
  taken_roomy = known.roomy

  pub taken_unit : k.session.unit ≤ 1000
  taken_unit = known.unit

  pub taken_long : (body : List ℕ) → body ≡ drop k.body bytes → 2 * k.count ≤ length body
  taken_long body b = omega (arith, known.lies, ap length b, length-drop k.body bytes)

  pub end_fits : length bytes < 2 ^ 64 → Fits w64 (k.session.start + k.count)
  end_fits l = record { fits = omega (arith, known.part) }

  pub end_within : k.session.start + k.count ≤ length bytes
  end_within = known.part

  pub labels_taken : take (k.session.start + k.count - k.session.start) (drop k.session.start bytes) ≡ (old_reading (old_asked t bytes room)).labels
  labels_taken = rw e (labels_of_lem t bytes room j z)

-- ---- what is read
abbrev stored : List ℕ → Taken → List ℤ → List ℤ
stored bytes k old = filled k.count (tab k.count (old_value_in (drop k.body bytes) k.session.unit)) old

module _ (t : Settings) (bytes : List ℕ) (old : List ℤ) where
  read_of : (j : Result OldHeader Fault) → OldJudgedOf t bytes (length old) j → OldReadOf t bytes old (old_taken_of j).session (stored bytes (old_taken_of j) old)
  unfolding old_taken_of old_verdict_of OldReadyIf old_not_read old_header_of old_is_read old_values_in old_value_in filled tab body_start
  read_of (Err d) z =
      let q = reading_refused (old_lent t bytes old) (number_of d) (place_of d) (same_verdict t bytes old ∙ z.is) in
      record { answer = rw q; sides = rw q; unit = rw q; start = rw q; values = rw q }
  read_of (Ok h) z =
      let H = z.ready.sized.is in
      let q = reading_passed (old_lent t bytes old) (same_verdict t bytes old ∙ z.is) in
      let s : h.start ≡ length bytes - length (drop h.start bytes) = omega (arith, length-drop h.start bytes, z.ready.sized.within) in
      record {
        answer = rw q;
        sides = sym (ap (λ r. r.sides) q ∙ ap (λ x. x.sides) H);
        unit = sym (ap (λ r. r.unit) q ∙ ap (λ x. x.unit) H);
        start = ap (λ k. k + 2 * cells h.sides) s ∙ sym (ap (λ r. r.start) q ∙ ap (λ x. length bytes - length x.body + 2 * cells x.sides) H);
        values = sym (ap (λ r. r.values) q ∙ ap (λ x. filled (cells x.sides) (old_values_in x) old) H);
      }

  pub read_taken : (new : List ℤ) (j : Result OldHeader Fault) (k : Taken) (body : List ℕ) → OldJudgedOf t bytes (length old) j → k ≡ old_taken_of j → body ≡ drop k.body bytes
      → new ≡ filled k.count (tab k.count (old_value_in body k.session.unit)) old
      → OldReadOf t bytes old k.session new
  read_taken new j k body z e b f = rw (f, b, e) (read_of j z)

pub ruleset readers = (rules, takes_if, taken_body, taken_roomy, taken_unit, taken_long, end_fits, end_within, labels_taken, read_taken)
