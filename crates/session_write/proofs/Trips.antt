-- Round trips of the code, by its promises: what `write` left is what `read` and `labels` give back, and what `read`
-- accepted is what `write` leaves. Assumes nothing.
use mathlib.Core.Path.{◌≡◌, sym, ap, ap₂, ◌∙◌}
use mathlib.Core.List.{List}
use Prim.Native.Nat.{ℕ, ◌+◌, ◌*◌, ◌≤◌}
use native.Mathlib.Omega.{arith}
use borrow.Author.Tests.{le-ltb}
use lib.IntN.{ℤ, pos}
use lib.ListN.{length, take, drop, replicate, length-replicate}
use lib.Seq.{take_at, take-append_seam}
use Rattle.laws.proofs.Lists.{length_tab}
use Rattle.method.specs.declared.Sides.{Sides}
use Rattle.method.specs.declared.Order.{Order}
use Rattle.method.specs.declared.Settings.{Settings}
use Rattle.method.specs.Cast.{cells}
use Rattle.method.specs.Form.{header, labels_in, values_in, cast_in, value_read}
use Rattle.method.specs.Answers.{fault}
use Rattle.method.specs.Rooms.{filled}
use Rattle.method.specs.Reading.{Reading, line_check, side_check, body_check, room_check, content_checks, reader_checks, reading, is_read}
use Rattle.method.specs.Writing.{bytes_of, writing}
use Rattle.theory.specs.Sessions.{Read0, Written0, again}
use Rattle.theory.proofs.Verdicts.{all_pass, pass_all}
use Rattle.theory.proofs.RoundTrip.{read_0, written_0, written_in_front, written_then_read, read_rewritten}
use Rattle.session_read.specs.Reads.{ReadOf, asked}
use Rattle.session_write.specs.Writes.{offered, WriteOf}
use Rattle.session_write.specs.Trips.{SameSession, SameBytes}
use Rattle.session_read.specs.declared.Session.{Session}
use Rattle.session_write.specs.declared.Written.{Written}
use Rattle.session_read.proofs.ReadLaws.{reading_passed}

-- ---- WRITTEN, THEN READ
module _ {s : Sides} {o : Order} {t : Settings} {ls : List ℕ} {vs : List ℤ} {old : List ℕ} {w : Written} {new : List ℕ} (z : WriteOf s o t ls vs old w new) (a : w.answer.number ≡ 0) where
  accepted : Written0 (offered s o t ls vs old)
  accepted = written_0 (offered s o t ls vs old) (ap (λ x. x.number) (sym z.answer) ∙ a)

  bytes_left : take w.count new ≡ bytes_of (offered s o t ls vs old)
  bytes_left = ap₂ take z.count z.output ∙ written_in_front (offered s o t ls vs old) accepted

  -- the first `count` bytes of the output, given to `read` and `labels` with room enough
  pub written_then_read_code : {lent stored : List ℤ} {r : Session} {found : List ℕ} (room : ℕ) → ReadOf (take w.count new) lent r stored
      → found ≡ (reading (asked (take w.count new) room)).labels → cells s ≤ length lent → cells s ≤ room
      → SameSession s o t ls vs lent r found stored
  written_then_read_code {lent} {stored} {r} {found} room x f l m =
      let y : ReadOf (bytes_of (offered s o t ls vs old)) lent r stored = rw bytes_left at x in
      let back = written_then_read (offered s o t ls vs old) lent accepted l in
      let k : cells s ≤ length (replicate room (pos 0)) = omega (arith, length-replicate room (pos 0)) in
      let labelled = written_then_read (offered s o t ls vs old) (replicate room (pos 0)) accepted k in
      record {
        answer = y.answer ∙ back.answer;
        sides = y.sides ∙ back.sides;
        order = y.order ∙ back.order;
        settings = y.settings ∙ back.settings;
        labels = f ∙ ap (λ bs. (reading (asked bs room)).labels) bytes_left ∙ labelled.labels;
        values = y.values ∙ back.values;
      }

-- ---- READ, THEN WRITTEN
values_long : (bs : List ℕ) → length (values_in (header bs)) ≡ cells (header bs).sides
unfolding values_in
values_long bs = length_tab (cells (header bs).sides) (λ x. value_read (header bs).order (take 4 (drop (cells (header bs).sides + 4 * x) (header bs).body)))

module _ {bs : List ℕ} {lent : List ℤ} {r : Session} {stored : List ℤ} (z : ReadOf bs lent r stored) (a : r.answer.number ≡ 0) where
  abbrev given : Reading
  given = record { bytes = bs; values = lent }

  passes : Read0 given
  passes = read_0 given (ap (λ x. x.number) (sym z.answer) ∙ a)

  sides_are : r.sides ≡ (header bs).sides
  unfolding is_read
  sides_are = z.sides ∙ ap (λ x. x.header.sides) (reading_passed given passes)

  order_is : r.order ≡ (header bs).order
  unfolding is_read
  order_is = z.order ∙ ap (λ x. x.header.order) (reading_passed given passes)

  settings_are : r.settings ≡ (header bs).settings
  unfolding is_read
  settings_are = z.settings ∙ ap (λ x. x.header.settings) (reading_passed given passes)

  values_are : take (cells r.sides) stored ≡ values_in (header bs)
  unfolding is_read filled
  values_are =
      ap₂ take (ap cells sides_are) (z.values ∙ ap (λ x. x.values) (reading_passed given passes))
      ∙ take_at (values_in (header bs)) (drop (cells (header bs).sides) lent) (cells (header bs).sides) (values_long bs)

  -- no check but that of the room looks at the lent values
  passes_too : (room : ℕ) → cells r.sides ≤ room → Read0 (asked bs room)
  unfolding reader_checks line_check side_check body_check room_check content_checks fault
  passes_too room l =
      let p = all_pass reader_checks given passes in
      let k : cells (header bs).sides ≤ length (replicate room (pos 0)) = omega (arith, length-replicate room (pos 0), ap cells sides_are) in
      pass_all reader_checks (asked bs room)
      (p.0, (p.1.0, (p.1.1.0, (ap fault (le-ltb (length (replicate room (pos 0))) (cells (header bs).sides) k), p.1.1.1.1))))

  labels_are : (room : ℕ) → cells r.sides ≤ room → (reading (asked bs room)).labels ≡ labels_in (header bs)
  unfolding is_read
  labels_are room l = ap (λ x. x.labels) (reading_passed (asked bs room) (passes_too room l))

  offered_again : (room : ℕ) (found output : List ℕ) → cells r.sides ≤ room → found ≡ (reading (asked bs room)).labels
      → offered r.sides r.order r.settings found (take (cells r.sides) stored) output ≡ again given output
  unfolding cast_in
  offered_again room found output l f =
      ap₂ (λ x y. offered x r.order r.settings y (take (cells r.sides) stored) output) sides_are (f ∙ labels_are room l)
      ∙ ap₂ (λ x y. offered (header bs).sides x y (labels_in (header bs)) (take (cells r.sides) stored) output) order_is settings_are
      ∙ ap (λ y. offered (header bs).sides (header bs).order (header bs).settings (labels_in (header bs)) y output) values_are

  -- what was accepted, given to `write` in its order with an output that is long enough. That it is bytes is in the
  -- promise of `read`
  pub read_then_written_code : {found output left : List ℕ} {w : Written} (room : ℕ) → cells r.sides ≤ room → found ≡ (reading (asked bs room)).labels
      → WriteOf r.sides r.order r.settings found (take (cells r.sides) stored) output w left → length bs ≤ length output
      → SameBytes bs output w left
  read_then_written_code {found} {output} {left} {w} room l f x m =
      let e = offered_again room found output l f in
      let back = read_rewritten given output z.are_bytes passes m in
      let count : w.count ≡ length bs = x.count ∙ ap (λ q. (writing q).count) e ∙ back.count in
      let whole = x.output ∙ ap (λ q. (writing q).output) e ∙ back.output in
      record {
        answer = x.answer ∙ ap (λ q. (writing q).answer) e ∙ back.answer;
        count = count;
        output = whole;
        front = ap₂ take count whole ∙ take-append_seam bs (drop (length bs) output);
      }
