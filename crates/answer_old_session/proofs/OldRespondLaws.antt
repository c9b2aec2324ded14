-- Laws of the response to an old session: the reader's refusal, the solver's answer in rooms that may be longer than
-- needed. Assumes nothing.
use mathlib.Core.Path.{◌≡◌, sym, ap, ap₂, ◌∙◌}
use mathlib.Core.Bool.{true}
use mathlib.Core.List.{List, []}
use Prim.Native.Nat.{ℕ, ◌*◌, ◌≤◌}
use native.Mathlib.Omega.{arith}
use borrow.Author.Rules.{rules}
use borrow.Author.Tests.{ltb-false, eqb-true}
use lib.Dec.{ltb, eqb}
use lib.IntN.{ℤ, pos}
use lib.Ieee.{Float}
use lib.ListN.{length, take, drop, replicate, length-drop, length-replicate}
use lib.Seq.{take_at, length-take-le}
use Rattle.laws.specs.Binary64.{+0}
use Rattle.laws.proofs.Lists.{length_tab}
use Rattle.method.specs.declared.Sides.{Sides}
use Rattle.method.specs.declared.Settings.{Settings}
use Rattle.method.specs.Cast.{cells, sides_fit}
use Rattle.method.specs.Answers.{passed, refused, verdict, refusal, done}
use Rattle.method.specs.Rooms.{filled, byte_need, float_need, word_need}
use Rattle.method.specs.Solving.{Asked, lengths_fit, solving}
use Rattle.method.specs.Program.{print, shown}
use Rattle.method.specs.OldForm.{OldReading, old_header, old_labels_in, old_values_in, old_cast_in, old_value_read, old_line_check, old_side_check, old_body_check, old_room_check, old_content_checks, old_reader_checks, old_not_read, old_is_read, old_reading}
use Rattle.method.specs.OldProgram.{old_taken, old_posed, old_printed}
use Rattle.theory.specs.Sides.{Fit}
use Rattle.theory.proofs.Sides.{fit}
use Rattle.theory.proofs.Verdicts.{Judged, fine, faulty, judge, AllPass, all_pass, no_fault, no_fault'}
use Rattle.theory.proofs.OldRoundTrip.{old_read_0}
use Rattle.old_read.specs.OldReads.{old_lent, old_asked, OldReadOf}
use Rattle.old_read.specs.declared.OldSession.{OldSession}
use Rattle.old_read.proofs.ReadLaws.{same_verdict, reading_passed}
use Rattle.answer_print.specs.Shows.{print_room, PutShort}
use Rattle.rounds.specs.Rounds.{cast_of}
use Rattle.solve.specs.Solve.{asked}
use Rattle.prints.proofs.Rooms.{print_other, rooms_alike}
use Rattle.prints.proofs.OldFronts.{old_printed_refused, old_printed_passed}
use Rattle.answer_session.specs.Responds.{Roomy}
use Rattle.answer_session.proofs.RespondLaws.{lengths_true, byte_more, float_more, word_more, cast_eq}
use Rattle.answer_old_session.specs.OldResponds.{OldIsRead}

-- what is put, by another name and with a greater bound
as_printed : (room : ℕ) (t : Settings) (bs : List ℕ) (ps : List ℤ) (x w u : List ℕ) (j : ℕ) → old_printed room t bs ≡ x → length ps ≤ room → PutShort (print_room (length ps)) x w 0 u j
    → PutShort (print_room room) (old_printed room t bs) w 0 u j
as_printed room t bs ps x w u j e l p = record { puts = rw e p.puts; short = omega (arith, p.short) }

pub reading_refused : (q : OldReading) (num place : ℕ) → verdict old_reader_checks q ≡ refused num place → old_reading q ≡ old_not_read q (refusal num place)
unfolding old_reading
reading_refused q num place e = rw (old_reading, e)

pub values_long : (bs : List ℕ) → length (old_values_in (old_header bs)) ≡ cells (old_header bs).sides
unfolding old_values_in
values_long bs = length_tab (cells (old_header bs).sides) (λ c. old_value_read (old_header bs).unit (take 2 (drop (2 * c) (old_header bs).body)))

-- ---- a session that is read
module _ (t : Settings) (bs : List ℕ) (old new : List ℤ) (s : OldSession) (z : OldReadOf t bs old s new) where
  abbrev lent : OldReading
  lent = old_lent t bs old

  pub refused_put : (qs : List ℤ) (w u : List ℕ) (j : ℕ) → (s.answer.number ≡ 0 → ⊥) → length qs ≤ length old → PutShort (print_room (length qs)) (print s.answer qs) w 0 u j
      → PutShort (print_room (length old)) (old_printed (length old) t bs) w 0 u j
  unfolding old_is_read old_not_read done refusal old_reader_checks old_line_check old_side_check old_body_check old_room_check old_content_checks
  refused_put qs w u j x k p = go (judge old_reader_checks lent)
    where
      go : Judged old_reader_checks lent → PutShort (print_room (length old)) (old_printed (length old) t bs) w 0 u j
      go (fine v a) = absurd (x (ap (λ r. r.number) z.answer ∙ ap (λ r. r.answer.number) (reading_passed lent v)))
      go (faulty num place v f) =
          let a : s.answer ≡ refusal num place = z.answer ∙ ap (λ r. r.answer) (reading_refused lent num place v) in
          as_printed (length old) t bs qs (print s.answer qs) w u j
          (old_printed_refused (length old) t bs num place (sym (same_verdict t bs old) ∙ v) ∙ print_other (refusal num place) [] qs (f 1 11 (omega arith)).0 ∙ ap (λ r. print r qs) (sym a)) k p

  pub read_passed : s.answer.number ≡ 0 → length new ≡ length old → OldIsRead t bs s.sides new
  unfolding old_is_read filled
  read_passed q l =
      let v : verdict old_reader_checks lent ≡ passed = old_read_0 lent (ap (λ r. r.number) (sym z.answer) ∙ q) in
      let is : old_reading lent ≡ old_is_read lent = reading_passed lent v in
      let g : s.sides ≡ (old_header bs).sides = z.sides ∙ ap (λ r. r.sides) is in
      record {
        passes = ap (λ n. verdict old_reader_checks (old_taken n t bs)) l ∙ sym (same_verdict t bs old) ∙ v;
        sides = g;
        values = ap₂ take (ap cells g) (z.values ∙ ap (λ r. r.values) is)
            ∙ take_at (old_values_in (old_header bs)) (drop (cells (old_header bs).sides) old) (cells (old_header bs).sides) (values_long bs);
      }

pub ruleset answers = (rules, refused_put, read_passed)

-- ---- what the checks say of it
module _ (room : ℕ) (t : Settings) (bs : List ℕ) (v : verdict old_reader_checks (old_taken room t bs) ≡ passed) where
  pub checked : AllPass old_reader_checks (old_taken room t bs)
  checked = all_pass old_reader_checks (old_taken room t bs) v

  pub in_range : sides_fit (old_header bs).sides ≡ true
  unfolding old_reader_checks old_side_check
  in_range = no_fault (sides_fit (old_header bs).sides) checked.1.0

  body_long : length (old_header bs).body ≡ 3 * cells (old_header bs).sides
  unfolding old_reader_checks old_body_check
  body_long = eqb-true (length (old_header bs).body) (3 * cells (old_header bs).sides) (no_fault (eqb (length (old_header bs).body) (3 * cells (old_header bs).sides)) checked.1.1.0)

  pub cells_few : cells (old_header bs).sides ≤ room
  unfolding old_reader_checks old_room_check
  cells_few =
      let n = length (replicate room (pos 0)) in
      let l : cells (old_header bs).sides ≤ n = ltb-false n (cells (old_header bs).sides) (no_fault' (ltb n (cells (old_header bs).sides)) checked.1.1.1.0) in
      omega (arith, l, length-replicate room (pos 0))

  pub labels_long : length (old_labels_in (old_header bs)) ≡ cells (old_header bs).sides
  unfolding old_labels_in
  labels_long =
      let n = cells (old_header bs).sides in
      length-take-le n (drop (2 * n) (old_header bs).body) (omega (arith, body_long, length-drop (2 * n) (old_header bs).body))

-- ---- and solved
module _ (t : Settings) (bs : List ℕ) (s : Sides) (vs : List ℤ) (z : OldIsRead t bs s vs) where
  pub read_fit : Fit s
  read_fit = rw z.sides (fit (old_header bs).sides (in_range (length vs) t bs z.passes))

  few : cells (old_header bs).sides ≤ length vs
  few = cells_few (length vs) t bs z.passes

  module _ (ps : List ℤ) (bytes : List ℕ) (floats : List Float) (words out : List ℕ) (room : Roomy (length vs) (length vs) (length ps) (length bytes) (length floats) (length words) (length out))
      (n : ℕ) (c : n ≡ cells s) where
    count_is : n ≡ cells (old_header bs).sides
    count_is = c ∙ ap cells z.sides

    pub in_values : n ≤ length vs
    in_values = omega (arith, count_is, few)

    pub part_values : n ≡ length (take n vs)
    part_values = sym (length-take-le n vs in_values)

    pub in_pressures : n ≤ length ps
    in_pressures = omega (arith, in_values, room.pressures_long)

    pub part_pressures : n ≡ length (take n ps)
    part_pressures = sym (length-take-le n ps in_pressures)

    pub solved_room : print_room (length (take n ps)) ≤ length out
    solved_room = omega (arith, part_pressures, in_values, room.output_long)

    labels_is : (old_reading (old_asked t bs (length vs))).labels ≡ old_labels_in (old_header bs)
    unfolding old_is_read
    labels_is = ap (λ r. r.labels) (reading_passed (old_asked t bs (length vs)) z.passes)

    module _ (labels : List ℕ) (f : labels ≡ (old_reading (old_asked t bs (length vs))).labels) where
      abbrev called : Asked
      called = asked s labels (take n vs) t (take n ps) bytes floats words

      abbrev N : ℕ
      N = cells (old_header bs).sides

      ls_long : length (old_labels_in (old_header bs)) ≡ N
      ls_long = labels_long (length vs) t bs z.passes

      exact : lengths_fit (old_posed (old_header bs) t) ≡ true
      unfolding old_posed old_cast_in
      exact = lengths_true (old_cast_in (old_header bs)) t (replicate N (pos 0)) (replicate (byte_need N) 0) (replicate (float_need N) +0) (replicate (word_need N) 0)
          ls_long (values_long bs) (length-replicate N (pos 0)) (omega (arith, length-replicate {A = ℕ} (byte_need N) 0)) (omega (arith, length-replicate (float_need N) +0)) (omega (arith, length-replicate {A = ℕ} (word_need N) 0))

      roomy : lengths_fit (record { cast = old_cast_in (old_header bs); settings = t; pressures = take n ps; bytes = bytes; floats = floats; words = words }) ≡ true
      unfolding old_cast_in
      roomy = lengths_true (old_cast_in (old_header bs)) t (take n ps) bytes floats words ls_long (values_long bs) (sym part_pressures ∙ count_is)
          (byte_more N (length vs) (length bytes) few room.bytes_long) (float_more N (length vs) (length floats) few room.floats_long) (word_more N (length vs) (length words) few room.words_long)

      same_cast : cast_of s labels (take n vs) ≡ old_cast_in (old_header bs)
      unfolding old_cast_in
      same_cast = cast_eq s (old_header bs).sides labels (old_labels_in (old_header bs)) (take n vs) (old_values_in (old_header bs)) z.sides (f ∙ labels_is) (ap (λ k. take k vs) c ∙ z.values)

      same_print : shown (solving called) ≡ old_printed (length vs) t bs
      unfolding old_posed
      same_print =
          ap (λ k. shown (solving (record { cast = k; settings = t; pressures = take n ps; bytes = bytes; floats = floats; words = words }))) same_cast
          ∙ sym (rooms_alike (old_cast_in (old_header bs)) t (replicate N (pos 0)) (take n ps) (replicate (byte_need N) 0) bytes (replicate (float_need N) +0) floats (replicate (word_need N) 0) words exact roomy)
          ∙ sym (old_printed_passed (length vs) t bs z.passes)

      pub solved_is : (u : List ℕ) (j : ℕ) → PutShort (print_room (length (take n ps))) (shown (solving called)) out 0 u j → PutShort (print_room (length vs)) (old_printed (length vs) t bs) out 0 u j
      solved_is u j p = as_printed (length vs) t bs (take n ps) (shown (solving called)) out u j (sym same_print) (omega (arith, part_pressures, in_values)) p

pub ruleset parts = (rules, read_fit, in_values, part_values, in_pressures, part_pressures, solved_room, solved_is)
