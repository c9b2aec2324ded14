-- Round trips of the code, from the promises alone: what `write_old` wrote, `read_old` and `old_labels` hand back, with
-- the unit; and what they accepted, `write_old` writes with that unit as the same bytes. Assumes nothing.
use mathlib.Core.Path.{◌≡◌, sym, ap, ap₂, subst, ◌∙◌}
use mathlib.Core.Bool.{true}
use mathlib.Core.List.{List, ◌++◌}
use Prim.Native.Nat.{ℕ, ◌*◌, ◌≤◌}
use lib.ListN.{length, take, drop}
use lib.Seq.{take_at}
use lib.IntN.{ℤ}
use Rattle.laws.proofs.Lists.{length_tab}
use Rattle.method.specs.declared.Sides.{Sides}
use Rattle.method.specs.declared.Settings.{Settings}
use Rattle.method.specs.Cast.{cells, settings_fit}
use Rattle.method.specs.Answers.{done}
use Rattle.method.specs.Rooms.{filled}
use Rattle.method.specs.OldForm.{OldReading, old_named, old_labels_in, old_values_in, old_cast_in, old_value_read, OldWriting, old_bytes_of, old_reading, old_writing, old_is_read}
use Rattle.theory.specs.Sessions.{Bytes, WrittenBack}
use Rattle.theory.specs.OldSessions.{OldRead0, OldWritten0, OldReadBack, old_to_read, old_again}
use Rattle.theory.proofs.OldRoundTrip.{old_read_0, old_written_0, old_written_then_read, old_written_in_front, old_read_rewritten, old_written_accepted}
use Rattle.old_read.specs.OldReads.{OldReadOf, old_lent, old_asked}
use Rattle.old_read.specs.declared.OldSession.{OldSession}
use Rattle.old_read.proofs.ReadLaws.{same_verdict, reading_passed}
use Rattle.old_write.specs.OldWrites.{OldWriteOf, old_offered}
use Rattle.session_write.specs.declared.Written.{Written}

-- ---- WRITTEN, THEN READ
module _ (s : Sides) (u : ℕ) (ls : List ℕ) (vs : List ℤ) (old new : List ℕ) (w : Written) (p : OldWriteOf s u ls vs old w new) (z : w.answer.number ≡ 0) where
  abbrev offered : OldWriting
  offered = old_offered s u ls vs old

  was_written : OldWritten0 offered
  was_written = old_written_0 offered (sym (ap (λ a. a.number) p.answer) ∙ z)

  front : take w.count new ≡ old_bytes_of offered
  front = ap₂ take p.count p.output ∙ old_written_in_front offered was_written

  module _ (t : Settings) (f : settings_fit t ≡ true) (lent : List ℤ) (l : cells s ≤ length lent) where
    back : OldReadBack offered lent (old_reading (old_to_read offered t lent))
    back = old_written_then_read offered t lent was_written f l

    pub written_read : (r : OldSession) (after : List ℤ) → OldReadOf t (take w.count new) lent r after
        → ((r.answer ≡ done) × (r.sides ≡ s)) × ((r.unit ≡ u) × (after ≡ vs ++ drop (cells s) lent))
    written_read r after q =
        let q' : OldReadOf t (old_bytes_of offered) lent r after = subst (λ b. OldReadOf t b lent r after) front q in
        ((q'.answer ∙ back.answer, q'.sides ∙ back.sides), (q'.unit ∙ back.unit, q'.values ∙ back.values))

    pub written_labels : (x : List ℕ) → x ≡ (old_reading (old_asked t (take w.count new) (length lent))).labels → x ≡ ls
    unfolding old_is_read
    written_labels x q =
        let a = reading_passed (old_lent t (old_bytes_of offered) lent) (old_written_accepted offered t lent was_written f l) in
        let b = reading_passed (old_asked t (old_bytes_of offered) (length lent)) (sym (same_verdict t (old_bytes_of offered) lent) ∙ old_written_accepted offered t lent was_written f l) in
        q ∙ ap (λ y. (old_reading (old_asked t y (length lent))).labels) front ∙ ap (λ r. r.labels) b ∙ sym (ap (λ r. r.labels) a) ∙ back.labels

-- ---- READ, THEN WRITTEN with its unit
module _ (t : Settings) (bytes : List ℕ) (b : Bytes bytes) (lent after : List ℤ) (r : OldSession) (p : OldReadOf t bytes lent r after) (z : r.answer.number ≡ 0) where
  abbrev asked : OldReading
  asked = old_lent t bytes lent

  was_read : OldRead0 asked
  was_read = old_read_0 asked (sym (ap (λ a. a.number) p.answer) ∙ z)

  is : old_reading asked ≡ old_is_read asked
  is = reading_passed asked was_read

  sides_are : r.sides ≡ (old_named asked).sides
  unfolding old_is_read
  sides_are = p.sides ∙ ap (λ q. q.sides) is

  unit_is : r.unit ≡ (old_named asked).unit
  unfolding old_is_read
  unit_is = p.unit ∙ ap (λ q. q.unit) is

  values_are : take (cells r.sides) after ≡ old_values_in (old_named asked)
  unfolding old_is_read filled old_values_in
  values_are =
      let h = old_named asked in
      ap₂ take (ap cells sides_are) (p.values ∙ ap (λ q. q.values) is)
      ∙ take_at (old_values_in h) (drop (cells h.sides) lent) (cells h.sides) (length_tab (cells h.sides) (λ c. old_value_read h.unit (take 2 (drop (2 * c) h.body))))

  labels_are : (x : List ℕ) → x ≡ (old_reading (old_asked t bytes (length lent))).labels → x ≡ old_labels_in (old_named asked)
  unfolding old_is_read
  labels_are x e = e ∙ ap (λ q. q.labels) (reading_passed (old_asked t bytes (length lent)) (sym (same_verdict t bytes lent) ∙ was_read))

  pub read_written : (x : List ℕ) → x ≡ (old_reading (old_asked t bytes (length lent))).labels
      → (out new : List ℕ) (w : Written) → length bytes ≤ length out → OldWriteOf r.sides r.unit x (take (cells r.sides) after) out w new
      → ((w.answer ≡ done) × (w.count ≡ length bytes)) × (new ≡ bytes ++ drop (length bytes) out)
  unfolding old_cast_in
  read_written x e out new w l q =
      let offered : old_offered r.sides r.unit x (take (cells r.sides) after) out ≡ old_again asked out =
      ap₂ (λ a c. old_offered a c x (take (cells r.sides) after) out) sides_are unit_is
      ∙ ap₂ (λ a c. old_offered (old_named asked).sides (old_named asked).unit a c out) (labels_are x e) values_are in
      let back : WrittenBack bytes out (old_writing (old_again asked out)) = old_read_rewritten asked out b was_read l in (
        (q.answer ∙ ap (λ v. (old_writing v).answer) offered ∙ back.answer, q.count ∙ ap (λ v. (old_writing v).count) offered ∙ back.count),
        q.output ∙ ap (λ v. (old_writing v).output) offered ∙ back.output,
      )
