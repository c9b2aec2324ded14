-- Laws of what the reader makes of a judgement. Assumes nothing.
use mathlib.Core.Path.{◌≡◌, refl, sym, ap, ◌∙◌}
use mathlib.Core.List.{List}
use Prim.Native.Nat.{ℕ, ◌+◌, ◌-◌, ◌*◌, ◌^◌, ◌≤◌, ◌<◌}
use native.Mathlib.Omega.{arith}
use borrow.Author.Rules.{rules}
use lib.Dec.{ltb}
use lib.IntN.{ℤ, pos}
use lib.ListN.{length, take, drop, length-drop, length-replicate}
use mir.Syntax.{w64}
use mir.Val.{Fits}
use Rattle.laws.specs.Lists.{tab}
use Rattle.method.specs.declared.Answer.{Answer}
use Rattle.method.specs.declared.Order.TheVariants.{Big}
use Rattle.method.specs.Cast.{cells}
use Rattle.method.specs.Form.{header, header_of, labels_in, values_in}
use Rattle.method.specs.Answers.{fault, passed, refused, verdict, refusal, done}
use Rattle.method.specs.Rooms.{filled}
use Rattle.method.specs.Reading.{Reading, line_check, side_check, body_check, room_check, content_checks, reader_checks, not_read, is_read, reading_by, reading}
use Rattle.session_values.specs.Body.{value_in}
use Rattle.theory.specs.Sessions.{Bytes}
use Rattle.theory.specs.Sides.{Fit}
use Rattle.theory.proofs.Sides.{fit}
use Rattle.session_read.specs.Reads.{FitIf, ReadOf, asked, taken_of, verdict_of, ReadyIf, JudgedOf}
use Rattle.theory.proofs.Verdicts.{verdict_agree}
use Rattle.std.specs.Prelude.{Result, Ok, Err}
use Rattle.answers.specs.Faults.{number_of, place_of}
use Rattle.answers.specs.declared.Fault.{Fault}
use Rattle.session_header.specs.declared.Header.{Header}
use Rattle.session_read.specs.declared.Taken.{Taken}

-- ---- what the reader makes of it
module _ (bytes : List ℕ) (old : List ℤ) where
  abbrev lent : Reading
  lent = record { bytes = bytes; values = old }

  same_verdict : verdict reader_checks lent ≡ verdict reader_checks (asked bytes (length old))
  unfolding reader_checks line_check side_check body_check room_check content_checks
  same_verdict = verdict_agree reader_checks lent (asked bytes (length old))
      (refl, (refl, (refl, (ap (λ k. fault (ltb k (cells (header bytes).sides))) (sym (length-replicate (length old) (pos 0))), (refl, (refl, (refl, tt)))))))

pub reading_refused : (q : Reading) (num place : ℕ) → verdict reader_checks q ≡ refused num place → reading q ≡ not_read q (refusal num place)
unfolding reading reading_by
reading_refused q num place e = rw (reading, reading_by, e)

pub reading_passed : (q : Reading) → verdict reader_checks q ≡ passed → reading q ≡ is_read q
unfolding reading reading_by
reading_passed q e = rw (reading, reading_by, e)

-- ---- what is taken of it
pub taken_refused : (j : Result Header Fault) (d : Fault) (a : Answer) → j ≡ Err d → a ≡ refusal (number_of d) (place_of d)
    → record { session = record { answer = a; sides = record { nx = 0; ny = 0; nz = 0 }; order = Big; settings = record { tolerance = 0; levels = 0; rounds = 0 }; start = 0 }; count = 0 } ≡ taken_of j
unfolding taken_of
taken_refused j d a e f = rw (e, f)

pub taken_passed : (j : Result Header Fault) (h : Header) (a : Answer) (n : ℕ) → j ≡ Ok h → a ≡ refusal 0 0 → n ≡ cells h.sides
    → record { session = record { answer = a; sides = h.sides; order = h.order; settings = h.settings; start = h.start }; count = n } ≡ taken_of j
unfolding taken_of done
taken_passed j h a n e f c = rw (e, f, c)

pub passed_fit : (j : Result Header Fault) (h : Header) → FitIf j → j ≡ Ok h → Fit h.sides
unfolding FitIf
passed_fit j h z e = rw e at z

pub ruleset taking = (rules, taken_refused, taken_passed, passed_fit)

pub fit_if : (bytes : List ℕ) (room : ℕ) (j : Result Header Fault) → JudgedOf bytes room j → FitIf j
unfolding FitIf ReadyIf
fit_if bytes room (Err d) z = tt
fit_if bytes room (Ok h) z = fit h.sides z.ready.sized.fit

-- the cells that are read lie in the bytes, and there is room for them
record Within (bytes : List ℕ) (room : ℕ) (t : Taken) : Type 0 where
  lies : t.session.start + 5 * t.count ≤ length bytes
  roomy : t.count ≤ room

within : (bytes : List ℕ) (room : ℕ) (j : Result Header Fault) → JudgedOf bytes room j → Within bytes room (taken_of j)
unfolding taken_of ReadyIf
within bytes room (Err d) z = record { lies = omega arith; roomy = omega arith }
within bytes room (Ok h) z = record { lies = omega (arith, z.ready.sized.long, length-drop h.start bytes, z.ready.sized.within); roomy = z.ready.roomy }

labels_of_lem : (bytes : List ℕ) (room : ℕ) (j : Result Header Fault) → JudgedOf bytes room j
    → take ((taken_of j).session.start + (taken_of j).count - (taken_of j).session.start) (drop (taken_of j).session.start bytes) ≡ (reading (asked bytes room)).labels
unfolding taken_of verdict_of ReadyIf not_read header_of is_read labels_in
labels_of_lem bytes room (Err d) z = sym (ap (λ r. r.labels) (reading_refused (asked bytes room) (number_of d) (place_of d) z.is))
labels_of_lem bytes room (Ok h) z =
    let m : h.start + cells h.sides - h.start ≡ cells h.sides = omega arith in
    ap (λ k. take k (drop h.start bytes)) m ∙ sym (ap labels_in z.ready.sized.is) ∙ sym (ap (λ r. r.labels) (reading_passed (asked bytes room) z.is))

module _ (bytes : List ℕ) (room : ℕ) (j : Result Header Fault) (t : Taken) (z : JudgedOf bytes room j) (e : t ≡ taken_of j) where
  known : Within bytes room t
  known = rw e (within bytes room j z)

  pub taken_start : t.session.start ≤ length bytes
  taken_start = omega (arith, known.lies)

  pub taken_roomy : t.count ≤ room
  taken_roomy = known.roomy

  pub taken_long : (body : List ℕ) → body ≡ drop t.session.start bytes → 5 * t.count ≤ length body
  taken_long body b = omega (arith, known.lies, ap length b, length-drop t.session.start bytes)

  pub end_fits : length bytes < 2 ^ 64 → Fits w64 (t.session.start + t.count)
  end_fits l = record { fits = omega (arith, known.lies) }

  pub end_within : t.session.start + t.count ≤ length bytes
  end_within = omega (arith, known.lies)

  pub labels_taken : take (t.session.start + t.count - t.session.start) (drop t.session.start bytes) ≡ (reading (asked bytes room)).labels
  labels_taken = rw e (labels_of_lem bytes room j z)

-- ---- what is read
abbrev stored : List ℕ → Taken → List ℤ → List ℤ
stored bytes t old = filled t.count (tab t.count (value_in (drop t.session.start bytes) t.count t.session.order)) old

module _ (bytes : List ℕ) (old : List ℤ) (known : Bytes bytes) where
  read_of : (j : Result Header Fault) → JudgedOf bytes (length old) j → ReadOf bytes old (taken_of j).session (stored bytes (taken_of j) old)
  unfolding taken_of verdict_of ReadyIf not_read header_of is_read values_in value_in filled tab
  read_of (Err d) z =
      let q = reading_refused (lent bytes old) (number_of d) (place_of d) (same_verdict bytes old ∙ z.is) in
      record { answer = rw q; sides = rw q; order = rw q; settings = rw q; start = rw q; values = rw q; are_bytes = known }
  read_of (Ok h) z =
      let H = z.ready.sized.is in
      let q = reading_passed (lent bytes old) (same_verdict bytes old ∙ z.is) in
      record {
        answer = rw q;
        sides = sym (ap (λ r. r.header.sides) q ∙ ap (λ x. x.sides) H);
        order = sym (ap (λ r. r.header.order) q ∙ ap (λ x. x.order) H);
        settings = sym (ap (λ r. r.header.settings) q ∙ ap (λ x. x.settings) H);
        start = sym (ap (λ r. r.start) q ∙ ap (λ x. length bytes - length x.body) H ∙ omega (arith, length-drop h.start bytes, z.ready.sized.within));
        values = sym (ap (λ r. r.values) q ∙ ap (λ x. filled (cells x.sides) (values_in x) old) H);
        are_bytes = known;
      }

  pub read_taken : (new : List ℤ) (j : Result Header Fault) (t : Taken) (body : List ℕ) → JudgedOf bytes (length old) j → t ≡ taken_of j → body ≡ drop t.session.start bytes
      → new ≡ filled t.count (tab t.count (value_in body t.count t.session.order)) old
      → ReadOf bytes old t.session new
  read_taken new j t body z e b f = rw (f, b, e) (read_of j z)

pub ruleset readers = (rules, fit_if, taken_start, taken_roomy, taken_long, end_fits, end_within, labels_taken, read_taken)
